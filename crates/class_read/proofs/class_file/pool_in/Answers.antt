use Rattle.std.proofs.Common.{◌++◌, List, ℕ, sym, ap, ◌∙◌}
use Rattle.class_model.specs.Spelling as spelling
use Rattle.class_read.proofs.Files.{pool_there}
use Rattle.class_read.proofs.class_file.pool_in.Goals as goal

pub returns : goal.returns
returns c =
    let found = c.in_ok-pool.ensures.found in
    pool_there c.args.file.now c.args.at c.in_ok-pool.pool c.split_at.result.1.now found.0 (found.1 ∙ ap (λ (l : List ℕ). spelling.pool c.in_ok-pool.pool ++ l) (sym c.split_at.ensures.back))
