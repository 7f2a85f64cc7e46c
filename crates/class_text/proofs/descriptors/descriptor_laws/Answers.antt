use Rattle.std.proofs.Common.{ap, ◌∙◌}
use Rattle.class_model.specs.Descriptors.{field_type, method_type}
use Rattle.class_text.proofs.DescriptorLaws.{field_taken, field_again, method_taken, method_again}
use Rattle.class_text.proofs.descriptors.descriptor_laws.Goals as goal

pub returns-clause-field : goal.returns-clause-field
returns-clause-field c = λ bytes t. (field_taken bytes t, λ p. ap field_type p.1 ∙ field_again t p.0)

pub returns-clause-method : goal.returns-clause-method
returns-clause-method c = λ bytes m. (method_taken bytes m, λ p. ap method_type p.1 ∙ method_again m p.0)
