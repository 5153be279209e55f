use Rattle.std.proofs.Common.{◌≡◌, true, false, Some, sym, ap, ◌∙◌, rules}
use Rattle.std.proofs.lemmas.Bool.{cond-true}
use Rattle.std.proofs.lemmas.Iterator.{YieldsList-from_slice, IsFirst-from_position}
use Rattle.std.specs.List.{slice_get}
use Rattle.std.specs.Option.{option_map, option_and_then}
use Rattle.names.specs.Keys.{key, parts}
use Rattle.host.specs.Paths.{walked}
use Rattle.host.specs.Holding.{all_now}
use Rattle.host.specs.FileHosts.{directory, led_to}
use Rattle.host.proofs.Following.{all_keys, key_at_place, led, tells, led_place}
use Rattle.host.proofs.file_host.FileHostHost.follow.Goals as goal

pub returns : goal.returns
returns c =
    let rs = c.args.self.now.keys.names.items in
    let ks = all_now rs in
    let j = c.in_ok-referrer.referrer.now in
    let x = c.args.specifier.now in
    let keys = all_keys ks c.args.self.now.keys.ok in
    let at : slice_get ks c.args.place ≡ Some j = sym c.at.ensures ∙ ap (option_map (λ k. k.now)) c.in_ok-referrer.was in
    let is_key = key_at_place ks c.args.place j keys at in
    let o = walked (directory j) (parts x) in
    led_place rs o c.position.result keys
    (IsFirst-from_position _ _ c.position.result (λ k. key k.now ≡ true → led o k.now ≡ true) (λ k. key k.now ≡ true → led o k.now ≡ false) c.position.ensures.ran
    (YieldsList-from_slice rs (c.iter.ensures.rest ∙ c.deref.ensures.value))
    (λ k q called held. sym (tells j x k.now.now true is_key held (search rules)))
    (λ k q called. (search rules, λ held. sym (tells j x k.now.now false is_key held (search rules)))))
    ∙ sym (cond-true _ _ _ (sym c.is_relative.ensures ∙ c.if-not-is_relative.false)) ∙ sym (ap (λ p. option_and_then (λ i. led_to ks i x) p) at)
