use Rattle.std.proofs.Common.{◌∙◌}
use Rattle.native_model.proofs.Putting.{file_put}
use Rattle.native_model.proofs.world.World.put_file.Goals as goal

pub returns : goal.returns
returns g c =
    file_put g.N.Naming.class_name g.N.Naming.site_origin _ _ _ _ _ _ _ _ _ _ _ _ _ (c.from_vec.ensures ∙ c.into_vec.ensures.bytes) c.self.view_is c.put-put.ensures.fits c.put-put.ensures.put c.put-put.ensures.err c.end_of_putting.ensures
