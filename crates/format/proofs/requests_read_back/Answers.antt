use Rattle.format.proofs.Requests.{requests_read_back}
use Rattle.format.proofs.requests_read_back.Goals as goal

pub returns : goal.returns
returns c = requests_read_back
