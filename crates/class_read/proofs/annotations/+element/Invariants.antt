use Rattle.std.proofs.Common.{◌≡◌, ◌-◌, ◌+◌, ◌*◌}
use Rattle.class_text.specs.Readers.{many_at, many_after}
use Rattle.class_text.specs.Elements.{pair_by, element_at}
use Rattle.const_pool.specs.Faults.{with_front}
use Rattle.class_read.proofs.annotations.+element.Given as goal

-- The depth falls from a value to those within it; beside it, the place in the chain of calls.
abbrev pub decreases-tagged_in : goal.decreases-tagged_in
decreases-tagged_in l = 8 * l.depth + 6

abbrev pub decreases-note_in : goal.decreases-note_in
decreases-note_in l = 8 * l.depth + 5

abbrev pub decreases-counted_pairs_in : goal.decreases-counted_pairs_in
decreases-counted_pairs_in l = 8 * l.depth + 4

abbrev pub decreases-pairs_in : goal.decreases-pairs_in
decreases-pairs_in l = 8 * l.depth + 3

abbrev pub decreases-pair_in : goal.decreases-pair_in
decreases-pair_in l = 8 * l.depth + 1

abbrev pub decreases-counted_elements_in : goal.decreases-counted_elements_in
decreases-counted_elements_in l = 8 * l.depth + 2

abbrev pub decreases-elements_in : goal.decreases-elements_in
decreases-elements_in l = 8 * l.depth + 1

abbrev pub decreases-element_in : goal.decreases-element_in
decreases-element_in l = 8 * l.depth

abbrev pub invariant-elements_in-loop-i : goal.invariant-elements_in-loop-i
invariant-elements_in-loop-i l =
    with_front l.items (many_after (λ before. element_at l.at l.pool l.depth) l.items (l.count - l.i) l.end l.rest) ≡ many_at (element_at l.at l.pool l.depth) l.count l.end l.bytes

abbrev pub invariant-pairs_in-loop-i : goal.invariant-pairs_in-loop-i
invariant-pairs_in-loop-i l =
    with_front l.items (many_after (λ before. pair_by (element_at l.at l.pool l.depth) l.pool) l.items (l.count - l.i) l.end l.rest) ≡ many_at (pair_by (element_at l.at l.pool l.depth) l.pool) l.count l.end l.bytes
