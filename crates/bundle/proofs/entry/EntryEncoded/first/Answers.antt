use Rattle.std.proofs.Common.{sym, ◌∙◌}
use Rattle.bundle.proofs.Taking.{no_key, taken}
use Rattle.bundle.proofs.entry.EntryEncoded.first.Goals as goal

pub returns-then-not-is_key-clause-takes : goal.returns-then-not-is_key-clause-takes
returns-then-not-is_key-clause-takes c =
    let front = c.in_ok-head.ensures.cases in
    no_key c.args.bytes.now c.in_ok-head.field-0-0.now c.in_ok-head.behind.now front.0 front.1 c.in_ok-key.key.now c.in_ok-key.behind.now
    c.from.result c.from.ensures c.in_ok-key.ensures.cases (sym c.is_key.ensures.value ∙ c.if-not-is_key.true)

pub returns-clause-takes : goal.returns-clause-takes
returns-clause-takes c =
    let front = c.in_ok-head.ensures.cases in
    taken c.args.bytes.now c.in_ok-head.field-0-0.now c.in_ok-head.behind.now front.0 front.1 front.2 (c.type_inv.bytes 1).fits (c.type_inv.bytes 2).fits
    c.in_ok-kind.kind (sym c.in_ok-kind.was ∙ c.ok.ensures.value ∙ c.try_from.ensures) c.in_ok-key.key.now c.in_ok-key.behind.now c.in_ok-payload.payload.now c.in_ok-payload.rest.now
    c.from.result c.from-2.result c.from.ensures (c.from-2.ensures ∙ c.from_be_bytes-size.ensures) c.in_ok-key.ensures.cases c.in_ok-payload.ensures.cases (sym c.is_key.ensures.value ∙ c.if-not-is_key.false)
