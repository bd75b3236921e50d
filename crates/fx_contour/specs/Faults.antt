-- What a fault of this crate says of the result that was due.
use Rattle.std.specs.Prelude.{◌≡◌, Result, Err}
use Rattle.fx_contour.specs.declared.fault.ContourFault.{ContourFault}
use Rattle.fx_contour.specs.declared.fault.ContourFault.TheVariants.{OutOfMemory}

-- that it is the fault that was due; out of memory says nothing
abbrev pub Fails : {Y : Type 0} → ContourFault → Result Y ContourFault → Type 0
Fails OutOfMemory due = Unit {0}
Fails fault due = due ≡ Err fault
