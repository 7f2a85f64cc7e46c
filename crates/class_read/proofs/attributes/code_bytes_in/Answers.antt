use Rattle.class_read.proofs.Contents.{no_code, much_code}
use Rattle.class_read.proofs.attributes.code_bytes_in.Goals as goal

pub returns-then-len-eq0 : goal.returns-then-len-eq0
returns-then-len-eq0 c = no_code c.args.at c.args.end c.args.bytes.now c.in_ok-len.len c.in_ok-len.rest.now c.in_ok-len.ensures c.if-len-eq0.true

pub returns-then-len-gt-MOST_CODE : goal.returns-then-len-gt-MOST_CODE
returns-then-len-gt-MOST_CODE c = much_code c.args.at c.args.end c.args.bytes.now c.in_ok-len.len c.in_ok-len.rest.now c.in_ok-len.ensures c.if-len-gt-MOST_CODE.true
