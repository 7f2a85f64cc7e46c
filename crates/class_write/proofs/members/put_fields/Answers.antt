use Rattle.std.proofs.Common.{◌≡◌, ◌∙◌, None, sym}
use Rattle.class_write.specs.Misfits as misfits
use Rattle.class_write.proofs.Faults.{passed_on, refuses_as, refuses_memory}
use Rattle.class_write.proofs.MemberLemmas.{single_fields, fields_told}
use Rattle.class_write.proofs.members.put_fields.Goals as goal

pub returns-in_err-doubles-clause-fault : goal.returns-in_err-doubles-clause-fault
returns-in_err-doubles-clause-fault c = passed_on _ _ _ c.from_residual.ensures.1 (refuses_memory _ _ c.in_err-doubles.ensures.memory)

pub returns-in_err-write_counted-clause-fault : goal.returns-in_err-write_counted-clause-fault
returns-in_err-write_counted-clause-fault c =
    let told : c.as_slice.result.now ≡ misfits.doubles c.args.pool.now c.args.fields.now = c.as_slice.ensures ∙ c.in_ok-doubles.ensures.doubles in
    passed_on _ _ _ c.from_residual-in_err-write_counted.ensures.1
    (refuses_as _ _ _ (fields_told c.args.pool.now c.args.fields.now _ told) c.in_err-write_counted.ensures.fault)

pub returns : goal.returns
returns c =
    let told : c.as_slice.result.now ≡ misfits.doubles c.args.pool.now c.args.fields.now = c.as_slice.ensures ∙ c.in_ok-doubles.ensures.doubles in
    let none : misfits.fields c.args.pool.now c.args.fields.now ≡ None = sym (fields_told c.args.pool.now c.args.fields.now _ told) ∙ c.in_ok-write_counted.ensures.none in
    record {
      ok = c.in_ok-write_counted.ensures.ok;
      shaped = record { each = c.in_ok-write_counted.ensures.shaped; once = single_fields c.args.pool.now c.args.fields.now none };
      none = none;
      fault = tt;
    }
