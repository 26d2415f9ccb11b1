use Rattle.format.proofs.Requests.{answers_read_back}
use Rattle.format.proofs.answers_read_back.Goals as goal

pub returns : goal.returns
returns c = answers_read_back
