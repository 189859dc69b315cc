use Rattle.std.proofs.Common.{◌≡◌, ◌∙◌, ℕ, Bool, List, ap, sym, subst, arith}
use Rattle.dcsctp_api.specs.types.declared.sending.UnderWay.{UnderWay}
use Rattle.dcsctp_api.specs.types.queues.SendStreams.{Stream, next_numbers, stream_counted, stream_at}
use Rattle.dcsctp_send_queue.proofs.StreamLemmas.{length-set_at}
use Rattle.dcsctp_api.specs.spec.queues.SendQueue.{SendQueueState, CanGoOn, is_front_unordered}
use Rattle.dcsctp_send_queue.proofs.NumberingLemmas.{anew_none, anew_some, anew_can}
use Rattle.dcsctp_send_queue.specs.Backlog.{queue_of}
use Rattle.dcsctp_send_queue.proofs.backlog.Backlog.number_anew.Goals as goal

pub returns-in_default : goal.returns-in_default
returns-in_default c =
    let queue : SendQueueState = queue_of c.args.self.now in
    let none = ap (λ (s : Stream). s.under_way) (sym c.at.ensures) ∙ (sym c.under_way.ensures.progress ∙ c.in_default.is) in
    ap {A = List Stream} (λ (s : List Stream). record queue { streams = s }) (anew_none c.args.self.now.is_interleaved c.args.self.now.streams c.args.place none)

pub go_on-requires : goal.go_on-requires
go_on-requires c =
    let at : Stream = stream_at c.args.self.now.streams c.args.place in
    let goes = ap (λ (s : Stream). s.under_way) (sym c.at.ensures) ∙ (sym c.under_way.ensures.progress ∙ c.in-Some.is) in
    let can = subst CanGoOn c.at.ensures c.under_way.ensures.can in
    let numbers : c.next_numbers-ssn.result ≡ next_numbers (is_front_unordered at.messages) at =
    c.next_numbers-ssn.ensures ∙ (ap (λ (b : Bool). next_numbers b c.at-2.result.now) c.is_front_unordered-is_unordered.ensures
    ∙ ap (λ (s : Stream). next_numbers (is_front_unordered at.messages) s) c.at-2.ensures) in
    let is = ap (λ (n : ℕ × ℕ). (let it : UnderWay = record c.in-Some.under_way { ssn = n.0; mid = n.1 } in it)) numbers in
    record {
      place = let len = length-set_at c.args.self.now.streams c.args.place (stream_counted c.args.self.now.is_interleaved c.is_front_unordered-is_unordered.result at) in rw c.count_begun.ensures (omega (arith, len, c.requires));
      can = anew_can c.args.self.now.is_interleaved c.is_front_unordered-is_unordered.result c.args.self.now.streams c.count_begun.new.self c.args.place c.in-Some.under_way _ c.requires goes can
          c.count_begun.ensures is;
    }

pub returns : goal.returns
returns c =
    let queue : SendQueueState = queue_of c.args.self.now in
    let at : Stream = stream_at c.args.self.now.streams c.args.place in
    let goes = ap (λ (s : Stream). s.under_way) (sym c.at.ensures) ∙ (sym c.under_way.ensures.progress ∙ c.in-Some.is) in
    let numbers : c.next_numbers-ssn.result ≡ next_numbers (is_front_unordered at.messages) at =
    c.next_numbers-ssn.ensures ∙ (ap (λ (b : Bool). next_numbers b c.at-2.result.now) c.is_front_unordered-is_unordered.ensures
    ∙ ap (λ (s : Stream). next_numbers (is_front_unordered at.messages) s) c.at-2.ensures) in
    let is = ap (λ (n : ℕ × ℕ). (let it : UnderWay = record c.in-Some.under_way { ssn = n.0; mid = n.1 } in it)) numbers in
    ap {A = List Stream} (λ (s : List Stream). record queue { streams = s })
    (anew_some c.args.self.now.is_interleaved c.is_front_unordered-is_unordered.result c.args.self.now.streams c.count_begun.new.self c.go_on.new.self c.args.place c.in-Some.under_way _ c.requires goes
    c.is_front_unordered-is_unordered.ensures c.count_begun.ensures is c.go_on.ensures)
