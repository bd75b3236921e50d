use Rattle.std.proofs.Common.{◌≡◌, [], ◌∷◌, refl, arith, map}
use Rattle.std.specs.Prelude.{is_some}
use Rattle.std.proofs.lemmas.Grind.{common_steps}
use Rattle.std.proofs.lemmas.Bool.Decides.{nat_tests}
use Rattle.fx_words.specs.Parts.{Text, has}
use Rattle.fx_words.specs.Sets.{Table, value_of}
use Rattle.fx_front.specs.Asked.{commands}
use Rattle.fx_front.specs.declared.meant.TheConstants.{OPTIONS}
use Rattle.fx_front.proofs.meant.takes_font.Goals as goal

-- a table has a value for each word of its first column
is_key : (rows : Table) (word : Text) → is_some (value_of rows word) ≡ has (map (λ row. row.0) rows) word
is_key [] word = refl
is_key (row ∷ rows) word = let rest = is_key rows word in grind (arith, nat_tests)

pub returns : goal.returns
unfolding commands
returns c = let named = is_key (map (λ row. (row.0.now, row.1.now)) OPTIONS) c.args.word.now in grind (arith, common_steps)
