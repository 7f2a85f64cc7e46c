use Rattle.std.proofs.Common.{◌≡◌, true, false, bytes_eq, sym, ◌∙◌}
use Rattle.class_model.specs.Attributes.{is_known}
use Rattle.class_text.specs.Attributes.{own_name}
use Rattle.class_read.specs.Stands.{stand_of}
use Rattle.class_read.proofs.Firsts.{first_own, first_annotations, first_unknown}
use Rattle.class_read.proofs.stands.SeenAttributes.is_first.Goals as goal

pub returns-then-eq : goal.returns-then-eq
returns-then-eq c =
    let own : bytes_eq c.args.text.now (own_name (stand_of c.args.stand)) ≡ true = rw c.own_name.ensures at (sym c.eq.ensures ∙ c.if-eq.true) in
    first_own c.args.pool.now (stand_of c.args.stand) c.args.self.now c.args.text.now c.requires own

pub returns-then-is_known : goal.returns-then-is_known
returns-then-is_known c =
    let other : bytes_eq c.args.text.now (own_name (stand_of c.args.stand)) ≡ false = rw c.own_name.ensures at (sym c.eq.ensures ∙ c.if-eq.false) in
    let known : is_known (stand_of c.args.stand) c.args.text.now ≡ true = sym c.is_known.ensures ∙ c.if-is_known.true in
    first_annotations c.args.pool.now (stand_of c.args.stand) c.args.self.now c.args.text.now c.requires other known

pub returns : goal.returns
returns c =
    let unknown : is_known (stand_of c.args.stand) c.args.text.now ≡ false = sym c.is_known.ensures ∙ c.if-is_known.false in
    first_unknown c.args.pool.now (stand_of c.args.stand) c.args.self.now.list c.args.text.now unknown
