use Rattle.out_entry.proofs.EntryText.{entry_text-injective}
use Rattle.out_entry.proofs.encode.entry_bytes.Goals as goal

pub returns-clause-injective : goal.returns-clause-injective
returns-clause-injective c e parts same = entry_text-injective e _ parts c.in_ok-text.ensures.parts same
