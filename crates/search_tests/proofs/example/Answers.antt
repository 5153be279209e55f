-- The example computes.
use Rattle.std.proofs.Common.{refl}
use Rattle.search.specs.Search.{put, heed, down_to, under, put_all}
use Rattle.search.specs.Running.{run, scan, shut_all}
use Rattle.search_tests.proofs.example.Goals as goal

pub returns : goal.returns
unfolding run scan shut_all put heed down_to under put_all
returns c = refl
