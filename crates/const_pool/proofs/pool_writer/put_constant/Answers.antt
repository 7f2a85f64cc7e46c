use Rattle.const_pool.proofs.Written.{on_ok, text_fits}
use Rattle.const_pool.proofs.pool_writer.put_constant.Goals as goal

pub returns-in-Utf8-clause-fits : goal.returns-in-Utf8-clause-fits
returns-in-Utf8-clause-fits c =
    on_ok c.put_text.result (rw c.in-Utf8.is (text_fits c.in-Utf8.text (rw c.in-Utf8.is at c.requires.short) (rw c.in-Utf8.is at c.requires.formed)))
