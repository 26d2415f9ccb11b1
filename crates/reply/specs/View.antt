-- What an answer of the code means, with the room that it was given. Assumes nothing.
use Rattle.std.specs.Prelude.{ℕ, List}
use Rattle.model.specs.Request as M
use Rattle.rows.specs.Row.{row_in, store_in, store_end}
use Rattle.reply.specs.declared.answer.Answer.{Answer}
use Rattle.reply.specs.declared.answer.Answer.TheVariants.{Refused, Verdict, Alike, Unlike, Neither}

-- each case, with its values: the first's headers, the second's and the message stand in the room one after the other
abbrev pub answer_of : List ℕ → Answer → M.Answer
answer_of room (Refused n k) = M.refused n k
answer_of room (Verdict b) = M.verdict b
answer_of room (Alike w r) = M.equivalent w r
answer_of room (Unlike at w r) = M.distinguished (store_in room at) (store_in room (store_end room at)) (row_in room (store_end room (store_end room at))) w r
answer_of room (Neither w r) = M.exhausted w r
