use Rattle.class_verify.proofs.Naming.{each_field_is_named, each_method_is_named, each_site_is_named, each_method_fits}
use Rattle.class_verify.proofs.laws.constants_name_members.Goals as goal

pub returns-clause-fields : goal.returns-clause-fields
returns-clause-fields c = each_field_is_named

pub returns-clause-methods : goal.returns-clause-methods
returns-clause-methods c = each_method_is_named

pub returns-clause-sites : goal.returns-clause-sites
returns-clause-sites c = each_site_is_named

pub returns-clause-bodies : goal.returns-clause-bodies
returns-clause-bodies c = each_method_fits
