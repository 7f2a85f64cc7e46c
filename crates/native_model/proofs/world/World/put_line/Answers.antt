use Rattle.native_model.proofs.Putting.{line_put}
use Rattle.native_model.proofs.world.World.put_line.Goals as goal

pub returns : goal.returns
returns g c =
    line_put g.N.Naming.class_name g.N.Naming.site_origin _ _ _ _ _ _ _ _ _ _ _ c.self.view_is c.put-put.ensures.fits c.put-put.ensures.put c.put-put.ensures.err c.end_of_putting.ensures
