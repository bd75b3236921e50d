use Rattle.std.proofs.Common.{◌≡◌, drop, length, take}
use Rattle.fx_front.specs.Lines.{shown_text}
use Rattle.fx_cli.specs.Faces.{longest_name}
use Rattle.fx_cli.proofs.faces.put_shown_name.Given as goal

-- the bytes before i are shown, and the others are the name's
abbrev pub invariant-bytes : goal.invariant-bytes
invariant-bytes l = record {
  long : length l.buffer ≡ longest_name;
  shown : take l.i l.buffer ≡ shown_text (take l.i l.name);
  rest : drop l.i l.buffer ≡ drop l.i l.initial.buffer;
}
