use Rattle.std.proofs.Common.{string_bytes, sym, ap, ◌∙◌}
use Rattle.std.proofs.lemmas.Result.{IfOk-weaker}
use Rattle.reply.specs.Printed.{line_of, message_text}
use Rattle.reply.specs.View.{answer_of}
use Rattle.reply.proofs.Showing.{unlike_line}
use Rattle.reply.proofs.text.line.Goals as goal

pub returns-in_ok-message-in-Unlike : goal.returns-in_ok-message-in-Unlike
returns-in_ok-message-in-Unlike c =
    let first = c.in_ok-first-in-Unlike.ensures in
    let second = c.in_ok-second-in-Unlike.ensures in
    IfOk-weaker c.format-in-Unlike.result _ _
    (λ s h.
    h
    ∙ unlike_line c.args.room.now c.in-Unlike.at c.in-Unlike.work c.in-Unlike.left c.new-reader.result (string_bytes c.in_ok-first-in-Unlike.first) c.store_text.new.reader (string_bytes c.in_ok-second-in-Unlike.second)
    c.store_text-in-Unlike.new.reader (string_bytes c.in_ok-message-in-Unlike.message) c.new-reader.ensures first.text first.rest second.text second.rest (c.in_ok-message-in-Unlike.ensures ∙ ap message_text c.row.ensures.row)
    ∙ ap (λ x. line_of (answer_of c.args.room.now x)) (sym c.in-Unlike.is))
    c.format-in-Unlike.ensures.ok
