use Rattle.std.proofs.Common.{rules, tests, lit<}
use Rattle.std.proofs.lemmas.Iterator.Consumers.{YieldsList-at, YieldsList-from_filter, map_from_collect}
use Rattle.std.proofs.lemmas.Iterator.Splits.{YieldsList-from_str_split}
use Rattle.fx_arguments.specs.Input.{arguments_of_line, has_bytes}
use Rattle.fx_arguments.proofs.input.words_of.Goals as goal

pub returns : goal.returns
unfolding arguments_of_line
returns c = map_from_collect _ c.collect.ensures.ran (YieldsList-from_filter _ has_bytes
    (YieldsList-at c.filter.ensures.source (YieldsList-from_str_split 32 c.args.line.now (lit< tt) c.split.ensures.text
    c.split.ensures.has_more c.split.ensures.pattern))
    c.filter.ensures.closure (λ x b q k. search (rules, tests)))
