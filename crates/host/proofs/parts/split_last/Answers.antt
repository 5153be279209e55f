use Rattle.std.proofs.Common.{◌≡◌, ℕ, ◌<◌, length, slice_index, rules}
use Rattle.std.proofs.lemmas.List.{take_rest}
use Rattle.host.proofs.Splitting.{splits_at, splits_never}
use Rattle.host.proofs.parts.split_last.Goals as goal

pub returns-in-Some : goal.returns-in-Some
returns-in-Some c =
    let here : slice_index c.args.path.now c.in-Some.i ≡ 47 = search rules in
    let behind : (k : ℕ) → c.in-Some.i < k → k < length c.args.path.now → ¬ (slice_index c.args.path.now k ≡ 47) = λ k l m. search rules in
    rw take_rest (splits_at c.args.path.now c.in-Some.i (search rules) here behind)

pub returns-in-None : goal.returns-in-None
returns-in-None c = splits_never c.args.path.now (λ k m. search rules)
