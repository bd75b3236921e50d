use Rattle.fx_contour.proofs.Reversed.{reversal_reverses_contours, reversal_reverses_spans, reversal_keeps_bits}
use Rattle.fx_contour.proofs.laws.reversal.Goals as goal

pub returns-clause-contours : goal.returns-clause-contours
returns-clause-contours c = reversal_reverses_contours

pub returns-clause-spans : goal.returns-clause-spans
returns-clause-spans c = reversal_reverses_spans

pub returns-clause-bits : goal.returns-clause-bits
returns-clause-bits c = reversal_keeps_bits
