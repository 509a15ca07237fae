use Rattle.link.proofs.RestLaws.{rest_next}
use Rattle.link.proofs.senders.Sender.drop_first.Goals as goal

pub returns : goal.returns
returns c =
    let range = c.self.inside.rest in
    let left = c.next.new.self in
    let moved = rest_next range.start range.end left.start left.end c.next.result c.next.ensures.steps in
    record { after = rw (← c.self.view_is, moved) }
