-- What one side has done so far, newest first, and where in it each effect may be.
use Rattle.std.specs.Prelude.{◌≡◌, ◌≢◌, ℕ, ◌+◌, ◌%◌, ◌^◌, Option, None, Some, List, [], ◌∷◌, ◌⊎◌}
use Rattle.dcsctp_spec_lemmas.specs.types.declared.association.Pair.{Pair}
use Rattle.dcsctp_spec_lemmas.specs.spec.association.Effect.{AssociationIdentity, Effect, draws, sends, holds, connects, ends, begins, gives_up, completes, fails, accepts, performs, renews, resumes}
use Rattle.dcsctp_spec_lemmas.specs.spec.association.FlushChanges.{next_number}

-- It is one of these.
abbrev pub HasEffect : Effect → List Effect → Type 0
HasEffect effect [] = ⊥
HasEffect effect (newest ∷ earlier) = (effect ≡ newest) ⊎ HasEffect effect earlier

-- Each effect is as the rule wants it, by what came before it.
abbrev pub Each : (Effect → List Effect → Type 0) → List Effect → Type 0
Each Rule [] = Unit {0}
Each Rule (newest ∷ earlier) = Rule newest earlier × Each Rule earlier

-- ---- fresh tags

-- A tag that is drawn was never drawn before.
abbrev pub FreshDraw : Effect → List Effect → Type 0
FreshDraw (draws pair) earlier = (other : Pair) → HasEffect (draws other) earlier → pair.tag ≢ other.tag
FreshDraw (sends packet) earlier = Unit {0}
FreshDraw (holds link) earlier = Unit {0}
FreshDraw (connects link) earlier = Unit {0}
FreshDraw ends earlier = Unit {0}
FreshDraw (begins number) earlier = Unit {0}
FreshDraw (completes my number) earlier = Unit {0}
FreshDraw (fails number) earlier = Unit {0}
FreshDraw (gives_up number) earlier = Unit {0}
FreshDraw (accepts number) earlier = Unit {0}
FreshDraw (performs peer number) earlier = Unit {0}
FreshDraw (renews peer number) earlier = Unit {0}
FreshDraw (resumes link own last) earlier = Unit {0}

-- No verification tag is drawn twice by this side.
abbrev pub HasFreshTags : List Effect → Type 0
HasFreshTags past = Each FreshDraw past

-- ---- what the past leaves

-- the existing association
abbrev pub current : List Effect → Option AssociationIdentity
current [] = None
current (holds link ∷ earlier) = Some link
current (resumes link own last ∷ earlier) = Some link
current (ends ∷ earlier) = None
current (draws pair ∷ earlier) = current earlier
current (sends packet ∷ earlier) = current earlier
current (connects link ∷ earlier) = current earlier
current (begins number ∷ earlier) = current earlier
current (completes my number ∷ earlier) = current earlier
current (fails number ∷ earlier) = current earlier
current (gives_up number ∷ earlier) = current earlier
current (accepts number ∷ earlier) = current earlier
current (performs peer number ∷ earlier) = current earlier
current (renews peer number ∷ earlier) = current earlier

-- the existing association and hasn't connected
abbrev pub unconnected_association : List Effect → Option AssociationIdentity
unconnected_association [] = None
unconnected_association (holds link ∷ earlier) = Some link
unconnected_association (resumes link own last ∷ earlier) = Some link
unconnected_association (connects link ∷ earlier) = None
unconnected_association (ends ∷ earlier) = None
unconnected_association (draws pair ∷ earlier) = unconnected_association earlier
unconnected_association (sends packet ∷ earlier) = unconnected_association earlier
unconnected_association (begins number ∷ earlier) = unconnected_association earlier
unconnected_association (completes my number ∷ earlier) = unconnected_association earlier
unconnected_association (fails number ∷ earlier) = unconnected_association earlier
unconnected_association (gives_up number ∷ earlier) = unconnected_association earlier
unconnected_association (accepts number ∷ earlier) = unconnected_association earlier
unconnected_association (performs peer number ∷ earlier) = unconnected_association earlier
unconnected_association (renews peer number ∷ earlier) = unconnected_association earlier

-- the number that its own request must carry: its own first TSN or what it was restored with, and then one more each time
abbrev pub number_to_begin : List Effect → Option ℕ
number_to_begin [] = None
number_to_begin (holds link ∷ earlier) = Some link.my.first_tsn
number_to_begin (resumes link own last ∷ earlier) = Some own
number_to_begin (begins number ∷ earlier) = Some (next_number number)
number_to_begin (ends ∷ earlier) = None
number_to_begin (draws pair ∷ earlier) = number_to_begin earlier
number_to_begin (sends packet ∷ earlier) = number_to_begin earlier
number_to_begin (connects link ∷ earlier) = number_to_begin earlier
number_to_begin (completes my number ∷ earlier) = number_to_begin earlier
number_to_begin (fails number ∷ earlier) = number_to_begin earlier
number_to_begin (gives_up number ∷ earlier) = number_to_begin earlier
number_to_begin (accepts number ∷ earlier) = number_to_begin earlier
number_to_begin (performs peer number ∷ earlier) = number_to_begin earlier
number_to_begin (renews peer number ∷ earlier) = number_to_begin earlier

-- the number of its own request that has not ended
abbrev pub outstanding : List Effect → Option ℕ
outstanding [] = None
outstanding (holds link ∷ earlier) = None
outstanding (resumes link own last ∷ earlier) = None
outstanding (begins number ∷ earlier) = Some number
outstanding (completes my number ∷ earlier) = None
outstanding (fails number ∷ earlier) = None
outstanding (gives_up number ∷ earlier) = None
outstanding (ends ∷ earlier) = None
outstanding (draws pair ∷ earlier) = outstanding earlier
outstanding (sends packet ∷ earlier) = outstanding earlier
outstanding (connects link ∷ earlier) = outstanding earlier
outstanding (accepts number ∷ earlier) = outstanding earlier
outstanding (performs peer number ∷ earlier) = outstanding earlier
outstanding (renews peer number ∷ earlier) = outstanding earlier

-- how many of its own requests were begun in the existing association
abbrev pub requests_begun : List Effect → ℕ
requests_begun [] = 0
requests_begun (holds link ∷ earlier) = 0
requests_begun (resumes link own last ∷ earlier) = 0
requests_begun (begins number ∷ earlier) = requests_begun earlier + 1
requests_begun (ends ∷ earlier) = 0
requests_begun (draws pair ∷ earlier) = requests_begun earlier
requests_begun (sends packet ∷ earlier) = requests_begun earlier
requests_begun (connects link ∷ earlier) = requests_begun earlier
requests_begun (completes my number ∷ earlier) = requests_begun earlier
requests_begun (fails number ∷ earlier) = requests_begun earlier
requests_begun (gives_up number ∷ earlier) = requests_begun earlier
requests_begun (accepts number ∷ earlier) = requests_begun earlier
requests_begun (performs peer number ∷ earlier) = requests_begun earlier
requests_begun (renews peer number ∷ earlier) = requests_begun earlier

-- the number that a request of the peer must carry to be accepted: its first TSN or the one after what was restored, and then
-- one more each time
abbrev pub number_to_accept : List Effect → Option ℕ
number_to_accept [] = None
number_to_accept (holds link ∷ earlier) = Some (link.peer.first_tsn % 2 ^ 32)
number_to_accept (resumes link own last ∷ earlier) = Some (next_number last)
number_to_accept (accepts number ∷ earlier) = Some (next_number number)
number_to_accept (ends ∷ earlier) = None
number_to_accept (draws pair ∷ earlier) = number_to_accept earlier
number_to_accept (sends packet ∷ earlier) = number_to_accept earlier
number_to_accept (connects link ∷ earlier) = number_to_accept earlier
number_to_accept (begins number ∷ earlier) = number_to_accept earlier
number_to_accept (completes my number ∷ earlier) = number_to_accept earlier
number_to_accept (fails number ∷ earlier) = number_to_accept earlier
number_to_accept (gives_up number ∷ earlier) = number_to_accept earlier
number_to_accept (performs peer number ∷ earlier) = number_to_accept earlier
number_to_accept (renews peer number ∷ earlier) = number_to_accept earlier

-- the number of the peer's request that was accepted last and not performed
abbrev pub number_to_perform : List Effect → Option ℕ
number_to_perform [] = None
number_to_perform (holds link ∷ earlier) = None
number_to_perform (resumes link own last ∷ earlier) = None
number_to_perform (accepts number ∷ earlier) = Some number
number_to_perform (performs peer number ∷ earlier) = None
number_to_perform (renews peer number ∷ earlier) = None
number_to_perform (ends ∷ earlier) = None
number_to_perform (draws pair ∷ earlier) = number_to_perform earlier
number_to_perform (sends packet ∷ earlier) = number_to_perform earlier
number_to_perform (connects link ∷ earlier) = number_to_perform earlier
number_to_perform (begins number ∷ earlier) = number_to_perform earlier
number_to_perform (completes my number ∷ earlier) = number_to_perform earlier
number_to_perform (fails number ∷ earlier) = number_to_perform earlier
number_to_perform (gives_up number ∷ earlier) = number_to_perform earlier

-- its own pair of an association, if there is one, and its peer's
abbrev pub my_of : Option AssociationIdentity → Option Pair
my_of None = None
my_of (Some link) = Some link.my

abbrev pub peer_of : Option AssociationIdentity → Option Pair
peer_of None = None
peer_of (Some link) = Some link.peer

-- ---- what was performed

-- The peer's request of this number was performed, under this peer's pair; or it was found to be the one before, which was.
abbrev pub WasPerformed : Pair → ℕ → List Effect → Type 0
WasPerformed peer number past = HasEffect (performs peer number) past ⊎ HasEffect (renews peer number) past

-- ---- the rules of one side

-- In one lifetime an association connects at most once, and as it is then. Its own requests go up by one from its own first TSN,
-- one at a time: the next one is begun once the one before has ended, or is given up. Each has at most one end, under its own
-- pair; one that is given up has none. The peer's accepted requests go up by one from its first TSN. Each is performed at most
-- once, or found to be the one before, under its pair, and none that wasn't accepted. An association that is restored takes the place of none, and its numbers go
-- on from those of the snapshot.
abbrev pub InPlace : Effect → List Effect → Type 0
InPlace (connects link) earlier = unconnected_association earlier ≡ Some link
InPlace (begins number) earlier = (number_to_begin earlier ≡ Some number) × (outstanding earlier ≡ None)
InPlace (completes my number) earlier = (outstanding earlier ≡ Some number) × (my_of (current earlier) ≡ Some my)
InPlace (fails number) earlier = outstanding earlier ≡ Some number
InPlace (gives_up number) earlier = outstanding earlier ≡ Some number
InPlace (accepts number) earlier = number_to_accept earlier ≡ Some number
InPlace (performs peer number) earlier = (number_to_perform earlier ≡ Some number) × (peer_of (current earlier) ≡ Some peer)
InPlace (renews peer number) earlier = (number_to_perform earlier ≡ Some number) × (peer_of (current earlier) ≡ Some peer)
InPlace (draws pair) earlier = Unit {0}
InPlace (sends packet) earlier = Unit {0}
InPlace (holds link) earlier = Unit {0}
InPlace (resumes link own last) earlier = current earlier ≡ None
InPlace ends earlier = Unit {0}
