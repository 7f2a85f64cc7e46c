use Rattle.std.proofs.Common.{◌≡◌, sym, ap, subst, ◌∙◌}
use Rattle.std.proofs.lemmas.Bool.{iff_false}
use Rattle.serde_json.specs.View.{view}
use Rattle.out_entry.specs.Entries.{IsEntry, entry_text}
use Rattle.out_entry.specs.declared.entry.Entry.{Entry}
use Rattle.out_entry.proofs.EntryText.{not_json, json-keeps}
use Rattle.out_entry.proofs.decode.read_entry.Goals as goal

pub returns-in_default-clause-every : goal.returns-in_default-clause-every
returns-in_default-clause-every c entry h = absurd (not_json c.args.bytes.now entry h (rw c.in_default.is at c.in_ok-json.ensures.none))

pub returns-in_default-2-clause-every : goal.returns-in_default-2-clause-every
returns-in_default-2-clause-every c entry h =
    let is = json-keeps c.args.bytes.now entry h (view c.in-Some.json) (rw c.in-Some.is at c.in_ok-json.ensures.found) in
    rw c.in_default-2.is at c.in_ok-entry.ensures.found entry h.parts is h.shallow

pub returns-then-not-is_entry-clause-every : goal.returns-then-not-is_entry-clause-every
returns-then-not-is_entry-clause-every c entry h =
    let is = json-keeps c.args.bytes.now entry h (view c.in-Some.json) (rw c.in-Some.is at c.in_ok-json.ensures.found) in
    let found = rw c.in-Some-2.is at c.in_ok-entry.ensures.found entry h.parts is h.shallow in
    let same : entry ≡ c.in-Some-2.entry = cc in
    let P : Entry → Type 0 = IsEntry in
    absurd (iff_false c.is_entry.ensures c.if-not-is_entry.true (subst P same h.whole))

pub returns-then-not-branch-clause-every : goal.returns-then-not-branch-clause-every
returns-then-not-branch-clause-every c entry h =
    let is = json-keeps c.args.bytes.now entry h (view c.in-Some.json) (rw c.in-Some.is at c.in_ok-json.ensures.found) in
    let found = rw c.in-Some-2.is at c.in_ok-entry.ensures.found entry h.parts is h.shallow in
    let same : entry ≡ c.in-Some-2.entry = cc in
    absurd (iff_false c.in_ok-has_text.ensures.same c.if-not-branch.true (ap entry_text (sym same) ∙ h.text))

pub returns-clause-every : goal.returns-clause-every
returns-clause-every c entry h =
    let is = json-keeps c.args.bytes.now entry h (view c.in-Some.json) (rw c.in-Some.is at c.in_ok-json.ensures.found) in
    rw c.in-Some-2.is at c.in_ok-entry.ensures.found entry h.parts is h.shallow
