-- The capacity of a sink in memory.
use Rattle.std.specs.Prelude.{ℕ, vec_capacity}
use Rattle.fx_fixed.specs.declared.memory.MemorySink.{MemorySink}

-- the number of bytes that it holds before it has to grow
abbrev pub capacity_of : MemorySink → ℕ
capacity_of sink = vec_capacity sink.bytes
