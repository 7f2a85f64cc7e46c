-- What the code keeps of constants and call sites, by its texts.
use Rattle.class_model.specs.declared.identifiers.MemberRef.{MemberRef}
use Rattle.class_code.specs.declared.named.MemberView.{MemberView}
use Rattle.class_code.specs.declared.named.HandleView.{HandleView}
use Rattle.class_code.specs.declared.named.NamedView.{NamedView}
use Rattle.class_code.specs.declared.named.NamedView.TheVariants as views
use Rattle.class_code.specs.declared.site.LambdaView.{LambdaView}
use Rattle.class_code.specs.declared.site.ConcatenationView.{ConcatenationView}
use Rattle.class_code.specs.declared.site.SiteView.{SiteView}
use Rattle.class_code.specs.declared.site.SiteView.TheVariants as sites
use Rattle.class_code.specs.Named.{HandleRef, Named, int, float, long, double, text, class, method_type, member, handle}
use Rattle.class_code.specs.Sites.{LambdaSite, ConcatenationSite, Site, lambda, concatenation}

abbrev pub member_ref : MemberView → MemberRef
member_ref m = record { owner = m.owner.now; name = m.name.now; descriptor = m.descriptor.now }

abbrev pub handle_ref : HandleView → HandleRef
handle_ref h = record { kind = h.kind; tag = h.tag; member = member_ref h.member }

abbrev pub named : NamedView → Named
named (views.Int n) = int n
named (views.Float n) = float n
named (views.Long n) = long n
named (views.Double n) = double n
named (views.Text t) = text t.now
named (views.Class t) = class t.now
named (views.MethodType t) = method_type t.now
named (views.Member tag m) = member tag (member_ref m)
named (views.Handle h) = handle (handle_ref h)

abbrev pub lambda_site : LambdaView → LambdaSite
lambda_site l = record {
  method = l.method.now;
  descriptor = l.descriptor.now;
  erased = l.erased.now;
  implementing = handle_ref l.implementing;
  instantiated = l.instantiated.now;
}

abbrev pub concatenation_site : ConcatenationView → ConcatenationSite
concatenation_site c = record { descriptor = c.descriptor.now; recipe = c.recipe.now; constants = c.constants.now }

abbrev pub site : SiteView → Site
site (sites.Lambda l) = lambda (lambda_site l)
site (sites.Concatenation c) = concatenation (concatenation_site c)
