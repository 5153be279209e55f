use Rattle.host.specs.Holding.{all_now}
use Rattle.host.specs.Held.{held}
use Rattle.host.proofs.Following.{follows_paths, plain_specifiers, ways}
use Rattle.host.proofs.Numbered.{numbered_as_given}
use Rattle.host.proofs.file_host.FileHost.new.Goals as goal

pub returns-clause-places : goal.returns-clause-places
returns-clause-places c = numbered_as_given (held c.in_ok-keys.keys) c.in_ok-keys.keys.ok (all_now c.args.keys.now) c.in_ok-keys.ensures.0

pub returns-clause-follows : goal.returns-clause-follows
returns-clause-follows c = follows_paths (held c.in_ok-keys.keys) c.in_ok-keys.keys.ok

pub returns-clause-plain : goal.returns-clause-plain
returns-clause-plain c = plain_specifiers (held c.in_ok-keys.keys) c.in_ok-keys.keys.ok

pub returns-clause-ways : goal.returns-clause-ways
returns-clause-ways c = ways (held c.in_ok-keys.keys) c.in_ok-keys.keys.ok
