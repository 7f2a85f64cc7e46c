use Rattle.std.proofs.Common.{◌≡◌, ◌++◌, flat_map, take}
use Rattle.line_text.specs.Lines.{line_of_byte}
use Rattle.line_text.proofs.lines.push_bytes.Given as goal

abbrev pub invariant-loop-byte : goal.invariant-loop-byte
invariant-loop-byte l = l.text.items ≡ l.fn.text.items ++ flat_map line_of_byte (take l.byte-index l.bytes)
