use Rattle.std.proofs.Common.{◌≡◌, length, arith}
use Rattle.list.proofs.Contents.{eight_bytes}
use Rattle.list.proofs.content.ValueFromContent.from.Goals as goal

pub returns-in-Number : goal.returns-in-Number
returns-in-Number c =
    let whole : length c.in-Number.pattern ≡ 8 = omega arith in
    let same = eight_bytes c.in-Number.pattern whole in
    rw c.in-Number.is (cc)
