-- Out of memory may come in place of any other result.
use Rattle.std.specs.Prelude.{◌≡◌, Result, Err}
use Rattle.fx_vary.specs.declared.fault.ShapeFault.{ShapeFault}
use Rattle.fx_vary.specs.declared.fault.ShapeFault.TheVariants.{OutOfMemory}

-- a fault that code returns is the one that is due, or out of memory
abbrev pub Fails : {Y : Type 0} → ShapeFault → Result Y ShapeFault → Type 0
Fails OutOfMemory due = Unit {0}
Fails fault due = due ≡ Err fault
