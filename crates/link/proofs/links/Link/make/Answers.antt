use Rattle.std.proofs.Common.{rules}
use Rattle.link.proofs.links.Link.make.Goals as goal
use Rattle.link.proofs.links.Link.make.Goals.{in-Request+in_ok-request-in-Request, in-Send+in_ok-send-in-Send, in-Reply+in_ok-reply-in-Reply, in-Retry+in_ok-retry-in-Retry, in-Abandon+in_ok-abandon-in-Abandon, in-Part+in_ok-part-in-Part, in-Break+in_ok-tell_break-in-Break, in-Meet+in_ok-meet-in-Meet}

pub returns-in_err-carry-in-Carry : goal.returns-in_err-carry-in-Carry
returns-in_err-carry-in-Carry g c = search (rules, c.carry.ensures.step c.args.book.now)

pub returns-in-Carry : goal.returns-in-Carry
returns-in-Carry g c = search (rules, c.carry.ensures.step c.args.book.now)

pub returns-in_err-position-in-Tell : goal.returns-in_err-position-in-Tell
returns-in_err-position-in-Tell g c = search (rules, c.tell.ensures.step c.args.book.now)

pub returns-in-Tell : goal.returns-in-Tell
returns-in-Tell g c = search (rules, c.tell.ensures.step c.args.book.now)

pub returns-in_err-reply-in-Reply : goal.returns-in_err-reply-in-Reply
returns-in_err-reply-in-Reply g c = search (rules, c.reply.ensures.step c.args.book.now)

pub returns-in_err-return_reply-in-Return : goal.returns-in_err-return_reply-in-Return
returns-in_err-return_reply-in-Return g c = search (rules, c.return_reply.ensures.step c.args.book.now)

pub returns-in-Return : goal.returns-in-Return
returns-in-Return g c = search (rules, c.return_reply.ensures.step c.args.book.now)

pub returns-in_err-retry-in-Retry : goal.returns-in_err-retry-in-Retry
returns-in_err-retry-in-Retry g c = search (rules, c.retry.ensures.step c.args.book.now)

pub returns-in_err-abandon-in-Abandon : goal.returns-in_err-abandon-in-Abandon
returns-in_err-abandon-in-Abandon g c = search (rules, c.abandon.ensures.step c.args.book.now)

pub returns-in_err-confirm-in-Confirm : goal.returns-in_err-confirm-in-Confirm
returns-in_err-confirm-in-Confirm g c = search (rules, c.confirm.ensures.step c.args.book.now)

pub returns-in-Confirm : goal.returns-in-Confirm
returns-in-Confirm g c = search (rules, c.confirm.ensures.step c.args.book.now)

pub returns-in_err-part-in-Part : goal.returns-in_err-part-in-Part
returns-in_err-part-in-Part g c = search (rules, c.part.ensures.step c.args.book.now)

pub returns-in_err-tell_break-in-Break : goal.returns-in_err-tell_break-in-Break
returns-in_err-tell_break-in-Break g c = search (rules, c.tell_break.ensures.step c.args.book.now)

pub returns-in_err-meet-in-Meet : goal.returns-in_err-meet-in-Meet
returns-in_err-meet-in-Meet g c = search (rules, c.meet.ensures.step c.args.book.now)

pub returns : goal.returns
returns g c =
    elim c.match-call.branch [
      | in-Request+in_ok-request-in-Request w ↦ search (rules, w.request.ensures.step)
      | in-Send+in_ok-send-in-Send w ↦ search (rules, w.send.ensures.step)
      | in-Reply+in_ok-reply-in-Reply w ↦ search (rules, w.reply.ensures.step c.args.book.now)
      | in-Retry+in_ok-retry-in-Retry w ↦ search (rules, w.retry.ensures.step c.args.book.now)
      | in-Abandon+in_ok-abandon-in-Abandon w ↦ search (rules, w.abandon.ensures.step c.args.book.now)
      | in-Part+in_ok-part-in-Part w ↦ search (rules, w.part.ensures.step c.args.book.now)
      | in-Break+in_ok-tell_break-in-Break w ↦ search (rules, w.tell_break.ensures.step c.args.book.now)
      | in-Meet+in_ok-meet-in-Meet w ↦ search (rules, w.meet.ensures.step c.args.book.now)
    ]
