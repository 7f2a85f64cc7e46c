use Rattle.std.proofs.Common.{◌≡◌, Some, None, List, ℕ, ap, ap₂, sym, ◌∙◌}
use Rattle.serde_json.specs.View.{view}
use Rattle.out_entry.proofs.Members.{file_name, file_digest}
use Rattle.out_entry.proofs.decode.file_of.Goals as goal

pub returns-in_default-digest_of : goal.returns-in_default-digest_of
returns-in_default-digest_of c file h is =
    let digest = file_digest file (view c.args.json.now) c.in-Some-Some.hex.now h is c.in-Some-Some.ensures' in
    let clash : None ≡ Some file.1 = sym c.in_default-digest_of.is ∙ c.digest_of.ensures ∙ digest in
    absurd (cc)

pub returns-in-Ok : goal.returns-in-Ok
returns-in-Ok c file h is =
    let name = file_name file (view c.args.json.now) c.in-Some-Some.name.now is c.in-Some-Some.ensures in
    let digest = file_digest file (view c.args.json.now) c.in-Some-Some.hex.now h is c.in-Some-Some.ensures' in
    let found : Some c.in-Some.digest ≡ Some file.1 = sym c.in-Some.is ∙ c.digest_of.ensures ∙ digest in
    let same : c.in-Some.digest ≡ file.1 = cc in
    ap Some (ap₂ (λ (a b : List ℕ). (a, b)) (c.in-Ok.ensures.ok.0 ∙ c.as_bytes.ensures.value ∙ name) same)
