use Rattle.std.proofs.Common.{◌≡◌, sym, ap, ◌∙◌, subst, IsTrue}
use Rattle.std.proofs.lemmas.Bool.{iff_false}
use Rattle.serde_json.specs.View.{view}
use Rattle.value_text.specs.Short.{Short, as_short, has_type}
use Rattle.value_text.specs.Texts.{stored_text}
use Rattle.value_text.proofs.Stored.{not_json, json-stores}
use Rattle.value_text.proofs.texts.parse.Goals as goal

pub returns-in_default-clause-bad_value : goal.returns-in_default-clause-bad_value
returns-in_default-clause-bad_value c bad v = not_json c.args.wanted c.args.text.now (rw c.in_default.is at c.in_ok-json.ensures.none) v

pub returns-in_default-2-clause-bad_value : goal.returns-in_default-2-clause-bad_value
returns-in_default-2-clause-bad_value c bad v h =
    let json_is = json-stores c.args.wanted c.args.text.now v (view c.in-Some.json) h (rw c.in-Some.is at c.in_ok-json.ensures.found) in
    let found = rw c.in_default-2.is at c.in_ok-value.ensures.found v h.valid h.shallow json_is in
    cc

pub returns-then-not-has_type-clause-bad_value : goal.returns-then-not-has_type-clause-bad_value
returns-then-not-has_type-clause-bad_value c bad v h =
    let json_is = json-stores c.args.wanted c.args.text.now v (view c.in-Some.json) h (rw c.in-Some.is at c.in_ok-json.ensures.found) in
    let found = rw c.in-Some-2.is at c.in_ok-value.ensures.found v h.valid h.shallow json_is in
    let same : v ≡ as_short c.in-Some-2.value = cc in
    iff_false c.has_type.ensures c.if-not-has_type.true (subst (λ (w : Short). IsTrue (has_type c.args.wanted w)) same h.typed)

pub returns-then-not-branch-clause-bad_value : goal.returns-then-not-branch-clause-bad_value
returns-then-not-branch-clause-bad_value c bad v h =
    let json_is = json-stores c.args.wanted c.args.text.now v (view c.in-Some.json) h (rw c.in-Some.is at c.in_ok-json.ensures.found) in
    let found = rw c.in-Some-2.is at c.in_ok-value.ensures.found v h.valid h.shallow json_is in
    let same : v ≡ as_short c.in-Some-2.value = cc in
    iff_false c.in_ok-is_stored.ensures.same c.if-not-branch.true (ap stored_text (sym same) ∙ h.stored)

pub returns-clause-only : goal.returns-clause-only
returns-clause-only c v h =
    let json_is = json-stores c.args.wanted c.args.text.now v (view c.in-Some.json) h (rw c.in-Some.is at c.in_ok-json.ensures.found) in
    let found = rw c.in-Some-2.is at c.in_ok-value.ensures.found v h.valid h.shallow json_is in
    cc
