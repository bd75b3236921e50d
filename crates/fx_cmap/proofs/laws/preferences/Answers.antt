use Rattle.std.proofs.Common.{[], ◌∷◌}
use Rattle.fx_cmap.specs.Preferences.{windows_whole, unicode_whole, windows_basic, unicode_basic, windows_symbols}
use Rattle.fx_cmap.proofs.Preferring.{gives_way}
use Rattle.fx_cmap.proofs.laws.preferences.Goals as goal

pub returns-clause-windows_whole : goal.returns-clause-windows_whole
returns-clause-windows_whole c = λ cmap h.
    gives_way cmap [] windows_whole (unicode_whole ∷ windows_basic ∷ unicode_basic ∷ windows_symbols ∷ []) h

pub returns-clause-unicode_whole : goal.returns-clause-unicode_whole
returns-clause-unicode_whole c = λ cmap h.
    gives_way cmap (windows_whole ∷ []) unicode_whole (windows_basic ∷ unicode_basic ∷ windows_symbols ∷ []) h

pub returns-clause-windows_basic : goal.returns-clause-windows_basic
returns-clause-windows_basic c = λ cmap h.
    gives_way cmap (windows_whole ∷ unicode_whole ∷ []) windows_basic (unicode_basic ∷ windows_symbols ∷ []) h

pub returns-clause-unicode_basic : goal.returns-clause-unicode_basic
returns-clause-unicode_basic c = λ cmap h.
    gives_way cmap (windows_whole ∷ unicode_whole ∷ windows_basic ∷ []) unicode_basic (windows_symbols ∷ []) h

pub returns-clause-symbols : goal.returns-clause-symbols
returns-clause-symbols c = λ cmap h.
    gives_way cmap (windows_whole ∷ unicode_whole ∷ windows_basic ∷ unicode_basic ∷ []) windows_symbols [] h
