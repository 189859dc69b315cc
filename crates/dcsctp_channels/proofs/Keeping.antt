-- What was to be taken stays, in each part of a call.
use Rattle.std.proofs.Common.{◌≡◌, ◌≤◌, ◌+◌, List, [], ◌++◌, refl, sym, ap, ◌∙◌, append_assoc, arith, Result, Ok, Err, OnOk, subst}
use Rattle.std.proofs.lemmas.List.{append-nil}
use Rattle.dcsctp_channel_calls.specs.api.types.ByResult.{ByResult}
use Rattle.dcsctp_channel_calls.specs.Calls.{IsFrontOf, KeepsTaking}
use Rattle.dcsctp_channel_calls.specs.Events.{with_notices}
use Rattle.dcsctp_channel_calls.specs.View.{ChannelNotice, LayerView}

pub begins_same : {A : Type 0} (front whole : List A) → whole ≡ front → IsFrontOf front whole
begins_same front whole same = ([], same ∙ sym (append-nil front))

pub begins_then : {A : Type 0} (a b c : List A) → IsFrontOf a b → IsFrontOf b c → IsFrontOf a c
begins_then a b c (xs, first) (ys, second) = (xs ++ ys, second ∙ ap (λ (w : List _). w ++ ys) first ∙ append_assoc a xs ys)

pub keeps_same : (old new : LayerView) → new.packets ≡ old.packets → new.notices ≡ old.notices → new.named ≡ old.named → new.failed ≡ old.failed → KeepsTaking old new
keeps_same old new packets notices named failed =
    record {
      packets = begins_same old.packets new.packets packets;
      notices = begins_same old.notices new.notices notices;
      names = let same : new.named ≡ old.named = named in omega arith;
      runs = failed;
    }

-- one more is named
pub keeps_named : (layer : LayerView) → KeepsTaking layer (record layer { named = layer.named + 1 })
keeps_named layer =
    record {
      packets = begins_same layer.packets layer.packets refl;
      notices = begins_same layer.notices layer.notices refl;
      names = let le : layer.named ≤ layer.named + 1 = omega arith in le;
      runs = refl;
    }

pub keeps_refl : (layer : LayerView) → KeepsTaking layer layer
keeps_refl layer = keeps_same layer layer refl refl refl refl

pub keeps_notices : (old new : LayerView) (more : List ChannelNotice) → new.packets ≡ old.packets → new.notices ≡ old.notices ++ more → new.named ≡ old.named → new.failed ≡ old.failed
    → KeepsTaking old new
keeps_notices old new more packets notices named failed =
    record {
      packets = begins_same old.packets new.packets packets;
      notices = (more, notices);
      names = let same : new.named ≡ old.named = named in omega arith;
      runs = failed;
    }

pub keeps_then : (a b c : LayerView) → KeepsTaking a b → KeepsTaking b c → KeepsTaking a c
keeps_then a b c first second =
    record {
      packets = begins_then a.packets b.packets c.packets first.packets second.packets;
      notices = begins_then a.notices b.notices c.notices first.notices second.notices;
      names = let f : a.named ≤ b.named = first.names in let s : b.named ≤ c.named = second.names in omega arith;
      runs = second.runs ∙ first.runs;
    }

-- one more is reported, or no memory is left for it
pub keeps_report : {A E : Type 0} (old mid new : LayerView) (more : List ChannelNotice) (result : Result A E) → KeepsTaking old mid
    → ByResult (λ done. new ≡ with_notices more mid) (new ≡ mid) result → KeepsTaking old new
keeps_report old mid new more (Ok done) keeps is =
    keeps_then old mid new keeps (keeps_notices mid new more (ap (λ (l : LayerView). l.packets) is) (ap (λ (l : LayerView). l.notices) is) (ap (λ (l : LayerView). l.named) is) (ap (λ (l : LayerView). l.failed) is))
keeps_report old mid new more (Err error) keeps is = subst (λ (l : LayerView). KeepsTaking old l) (sym is) keeps

pub reported_on : {A E : Type 0} (mid is new : LayerView) (more : List ChannelNotice) (result : Result A E) → mid ≡ is
    → ByResult (λ done. new ≡ with_notices more mid) (new ≡ mid) result → OnOk result (new ≡ with_notices more is)
reported_on mid is new more (Ok done) same reports = reports ∙ ap (with_notices more) same
reported_on mid is new more (Err error) same reports = tt
