-- The stack without its top, for instructions that put their result in its place.
use Rattle.std.specs.Prelude.{drop}
use Rattle.fx_stackops.specs.Store.{StoreView, with_stack}

-- what is left without the top
abbrev pub below_top : StoreView → StoreView
below_top s = with_stack (drop 1 s.stack) s
