use Rattle.std.proofs.Common.{inl, sym}
use Rattle.mill_top.proofs.TopLaws.{shown_answer_to, shown_unread, from_scratch_in, stands_in}
use Rattle.mill_top.proofs.top.mill_one.Goals as goal

pub returns : goal.returns
returns g c =
    let words = c.args.words.now in
    let before = g.S.Store.faults c.args.store in
    let now = g.S.Store.faults c.answer_words-reply.result.store in
    let w = g.W.Workspace.faults c.args.workspace in
    let v = g.W.Workspace.faults c.answer_words-reply.new.workspace in
    let old = g.S.Store.content c.args.store in
    let new = g.S.Store.content c.answer_words-reply.result.store in
    let inputs = c.answer_words-reply.result.inputs in
    let takes = c.answer_words-reply.result.takes in
    let own = c.answer_words-reply.result.reply in
    let reply = c.show-status.result.1 in
    let answer = shown_answer_to words inputs before now old new reply own takes c.show-status.ensures.reply c.answer_words-reply.ensures.answer in
    record {
      shown = rw (sym c.explains.ensures) c.show-status.ensures.shown;
      sink_fault = c.show-status.ensures.fault;
      unread = λ none. shown_unread words before now w v old new reply own takes c.show-status.ensures.reply (c.answer_words-reply.ensures.unread none);
      record_of = c.answer_words-reply.ensures.inputs;
      answer = answer;
      from_scratch = λ runs lost stands.
          from_scratch_in words c.args.environment.now c.args.moment (g.W.Workspace.content c.args.workspace) inputs before now old new reply takes runs lost c.answer_words-reply.ensures.inputs answer stands;
      stands = λ runs lost stands clean.
          stands_in words inputs before now w v old new own takes runs lost c.answer_words-reply.ensures.unread (c.answer_words-reply.ensures.stands runs lost) stands clean;
      workspace = c.answer_words-reply.ensures.workspace;
      same_store = record { later = c.answer_words-reply.ensures.store_later; kept = inl c.answer_words-reply.ensures.kept_store; plan = c.answer_words-reply.ensures.plan_store };
      same_workspace = record { later = c.answer_words-reply.ensures.workspace_later; kept = inl c.answer_words-reply.ensures.kept_workspace; plan = c.answer_words-reply.ensures.plan_workspace };
      same_sink = record { later = c.show-status.ensures.later; kept = inl c.show-status.ensures.kept; plan = c.show-status.ensures.plan };
    }
