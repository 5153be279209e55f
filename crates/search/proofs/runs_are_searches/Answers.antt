-- Each run is a search.
use Rattle.search.proofs.Functions.{run_says}
use Rattle.search.proofs.runs_are_searches.Goals as goal

pub returns : goal.returns
returns g c = λ arrows P. run_says arrows P
