-- A handshake keeps tags other than 0, and the method of the options or none.
use Rattle.std.proofs.Common.{◌≡◌, ◌≤◌, ℕ, Bool, true, false, cond, eqb, ◌||◌, not, Option, None, Some, Result, Ok, Err, List, [], ◌∷◌, ◌⊎◌, inl, inr, length, refl, subst, arith}
use Rattle.std.proofs.lemmas.Bool.Decides.{nat_tests}
use Rattle.dcsctp_spec_lemmas.specs.wire.Fields.{u32_at}
use Rattle.dcsctp_spec_lemmas.specs.types.declared.association.Pair.{Pair}
use Rattle.dcsctp_spec_lemmas.specs.types.declared.association.Held.{Held}
use Rattle.dcsctp_spec_lemmas.specs.types.declared.options.Options.{Options}
use Rattle.dcsctp_spec_lemmas.specs.spec.Cookie.{Cookie, cookie_of_bytes, cookie_fields, has_magic, has_zero_tag, size_text, magic_text, tag_text}
use Rattle.dcsctp_spec_lemmas.specs.spec.endpoint.Endpoint.{Core, closed, cookie_wait, cookie_echoed, open_in, established, shutdown_pending, shutdown_sent, shutdown_received, shutdown_ack_sent}
use Rattle.dcsctp_spec_lemmas.specs.types.Offer.{Offer, offer_of, negotiated_capabilities}
use Rattle.dcsctp_spec_lemmas.specs.spec.Packet.{Introduction, Content, cookie_echo, cookie_ack}
use Rattle.dcsctp_spec_lemmas.specs.spec.Reconfiguration.{RequestedReset}
use Rattle.dcsctp_spec_lemmas.specs.spec.Soundness.{UsesOwnMethod, IsSoundHeld, IsSoundCore}
use Rattle.dcsctp_spec_lemmas.specs.spec.association.Choices.{Filling, Choices}
use Rattle.dcsctp_spec_lemmas.specs.spec.association.CookieEchoChanges.{Resolution, establish_new, restart, simultaneous_init, discard, maintain_existing, invalid_tag, stale, aged_resolution, resolve, held_by_cookie, new_association_change, restart_change, maintain_change, resolved_change, read_echo_change}
use Rattle.dcsctp_spec_lemmas.specs.spec.association.FlushChanges.{flush, flush_if_allowed, flushed_with, reset_to_begin}
use Rattle.dcsctp_spec_lemmas.specs.spec.association.HandshakeChanges.{init_change, held_by_init_ack, init_ack_change, cookie_ack_change, echo_change, t1_again_change, t1_gives_up_change}

-- ---- the method

own_or_none : (is_common : Bool) (options : Options)
    → (cond is_common options.zero_checksum_alternate_error_detection_method.0 0 ≡ 0)
    ⊎ (record { 0 = cond is_common options.zero_checksum_alternate_error_detection_method.0 0 } ≡ options.zero_checksum_alternate_error_detection_method)
own_or_none true options = inr refl
own_or_none false options = inl refl

-- Two ends agree on the method of our options, or on none.
pub negotiates_own : (options : Options) (theirs : Offer) → UsesOwnMethod options (negotiated_capabilities (offer_of options) theirs)
negotiates_own options theirs = own_or_none (eqb options.zero_checksum_alternate_error_detection_method.0 theirs.zero_checksum_method) options

-- ---- a cookie

abbrev read : Cookie → Result Cookie (List ℕ)
read cookie = Ok cookie

abbrev unread : List ℕ → Result Cookie (List ℕ)
unread text = Err text

abbrev HasTags : Cookie → Type 0
HasTags cookie = (1 ≤ cookie.maker.tag) × (1 ≤ cookie.addressee.tag)

ok_is : (x y : Cookie) → read x ≡ read y → x ≡ y
ok_is x y same = cc

no_error : (text : List ℕ) (cookie : Cookie) → unread text ≡ read cookie → ⊥
no_error text cookie same = cc

no_zeros : (m n : ℕ) → eqb m 0 || eqb n 0 ≡ false → (1 ≤ n) × (1 ≤ m)
no_zeros m n none = (grind (arith, nat_tests), grind (arith, nat_tests))

by_tags : (zero_tag : Bool) (bytes : List ℕ) (cookie : Cookie) → has_zero_tag bytes ≡ zero_tag
    → cond zero_tag (unread tag_text) (read (cookie_fields bytes)) ≡ read cookie → HasTags cookie
by_tags true bytes cookie is found = absurd (no_error tag_text cookie found)
by_tags false bytes cookie is found = subst HasTags (ok_is (cookie_fields bytes) cookie found) (no_zeros (u32_at 8 bytes) (u32_at 12 bytes) is)

by_magic : (not_magic : Bool) (bytes : List ℕ) (cookie : Cookie)
    → cond not_magic (unread magic_text) (cond (has_zero_tag bytes) (unread tag_text) (read (cookie_fields bytes))) ≡ read cookie → HasTags cookie
by_magic true bytes cookie found = absurd (no_error magic_text cookie found)
by_magic false bytes cookie found = by_tags (has_zero_tag bytes) bytes cookie refl found

by_size : (not_size : Bool) (bytes : List ℕ) (cookie : Cookie)
    → cond not_size (unread size_text) (cond (not (has_magic bytes)) (unread magic_text) (cond (has_zero_tag bytes) (unread tag_text) (read (cookie_fields bytes)))) ≡ read cookie → HasTags cookie
by_size true bytes cookie found = absurd (no_error size_text cookie found)
by_size false bytes cookie found = by_magic (not (has_magic bytes)) bytes cookie found

-- No tag of a cookie that was read is 0.
cookie_has_tags : (bytes : List ℕ) (cookie : Cookie) → cookie_of_bytes bytes ≡ Ok cookie → HasTags cookie
unfolding cookie_of_bytes
cookie_has_tags bytes cookie found = by_size (not (eqb (length bytes) 56)) bytes cookie found

-- ---- each change

module _ (p : Options) where
  flushed_sound : (tag : ℕ) (held : Held) (front : List Content) (filling : Filling) (reset : Option RequestedReset) → IsSoundHeld p held
      → IsSoundHeld p (flushed_with tag held front filling reset).held
  flushed_sound tag held front filling None h = h
  flushed_sound tag held front filling (Some reset) h = record { tag_is_not_zero = h.tag_is_not_zero; method = h.method }

  flush_where_sound : (is_allowed : Bool) (tag : ℕ) (held : Held) (front : List Content) (filling : Filling) → IsSoundHeld p held
      → IsSoundHeld p (flush_if_allowed is_allowed tag held front filling).held
  flush_where_sound false tag held front filling h = h
  flush_where_sound true tag held front filling h = flushed_sound tag held front filling (reset_to_begin held.own_outstanding filling.reset) h

  pub flush_sound : (tag : ℕ) (held : Held) (front : List Content) (filling : Filling) → IsSoundHeld p held → IsSoundHeld p (flush tag held front filling).held
  flush_sound tag held front filling h = flush_where_sound filling.is_allowed tag held front filling h

  -- ---- the handshake

  pub init_sound : (core : Core) (theirs : Introduction) (choices : Choices) → IsSoundCore p core → IsSoundCore p (init_change p core theirs choices).core
  init_sound closed theirs choices h = h
  init_sound (cookie_wait my) theirs choices h = h
  init_sound (cookie_echoed my held cookie) theirs choices h = h
  init_sound (open_in established my held) theirs choices h = h
  init_sound (open_in shutdown_pending my held) theirs choices h = h
  init_sound (open_in shutdown_sent my held) theirs choices h = h
  init_sound (open_in shutdown_received my held) theirs choices h = h
  init_sound (open_in shutdown_ack_sent my held) theirs choices h = h

  echo_sound : (fits : Bool) (my : Pair) (held : Held) (cookie : List ℕ) (filling : Filling) → IsSoundCore p (cookie_echoed my held cookie)
      → IsSoundCore p (echo_change my held cookie fits filling).core
  echo_sound false my held cookie filling h = h
  echo_sound true my held cookie filling h = (h.0, flush_sound held.peer.tag held (cookie_echo cookie ∷ []) filling h.1)

  pub init_ack_sound : (core : Core) (theirs : Introduction) (cookie : Option (List ℕ)) (choices : Choices) → 1 ≤ theirs.pair.tag → IsSoundCore p core
      → IsSoundCore p (init_ack_change p core theirs cookie choices).core
  init_ack_sound closed theirs cookie choices said h = h
  init_ack_sound (cookie_wait my) theirs None choices said h = tt
  init_ack_sound (cookie_wait my) theirs (Some cookie) choices said h =
      echo_sound choices.fits my (held_by_init_ack p my theirs) cookie choices.filling (h, record { tag_is_not_zero = said; method = negotiates_own p theirs.offer })
  init_ack_sound (cookie_echoed my held echoed) theirs cookie choices said h = h
  init_ack_sound (open_in phase my held) theirs cookie choices said h = h

  pub cookie_ack_sound : (core : Core) (choices : Choices) → IsSoundCore p core → IsSoundCore p (cookie_ack_change core choices).core
  cookie_ack_sound closed choices h = h
  cookie_ack_sound (cookie_wait my) choices h = h
  cookie_ack_sound (cookie_echoed my held cookie) choices h = (h.0, flush_sound held.peer.tag held [] choices.filling h.1)
  cookie_ack_sound (open_in phase my held) choices h = h

  pub t1_again_sound : (core : Core) (choices : Choices) → IsSoundCore p core → IsSoundCore p (t1_again_change p core choices).core
  t1_again_sound closed choices h = h
  t1_again_sound (cookie_wait my) choices h = h
  t1_again_sound (cookie_echoed my held cookie) choices h = echo_sound choices.fits my held cookie choices.filling h
  t1_again_sound (open_in phase my held) choices h = h

  pub gives_up_sound : (core : Core) → IsSoundCore p core → IsSoundCore p (t1_gives_up_change core).core
  gives_up_sound closed h = h
  gives_up_sound (cookie_wait my) h = tt
  gives_up_sound (cookie_echoed my held cookie) h = tt
  gives_up_sound (open_in phase my held) h = h

  -- ---- COOKIE ECHO

  held_by_cookie_sound : (cookie : Cookie) → HasTags cookie → IsSoundHeld p (held_by_cookie p cookie)
  held_by_cookie_sound cookie tags = record { tag_is_not_zero = tags.1; method = negotiates_own p cookie.offer }

  new_sound : (cookie : Cookie) (choices : Choices) → HasTags cookie → IsSoundCore p (new_association_change p cookie choices).core
  new_sound cookie choices tags =
      (tags.0, flush_sound cookie.addressee.tag (held_by_cookie p cookie) (cookie_ack ∷ []) choices.filling (held_by_cookie_sound cookie tags))

  restart_sound : (core : Core) (cookie : Cookie) (choices : Choices) → HasTags cookie → IsSoundCore p core → IsSoundCore p (restart_change p core cookie choices).core
  restart_sound closed cookie choices tags h = new_sound cookie choices tags
  restart_sound (cookie_wait my) cookie choices tags h = new_sound cookie choices tags
  restart_sound (cookie_echoed my held echoed) cookie choices tags h = new_sound cookie choices tags
  restart_sound (open_in established my held) cookie choices tags h = new_sound cookie choices tags
  restart_sound (open_in shutdown_pending my held) cookie choices tags h = new_sound cookie choices tags
  restart_sound (open_in shutdown_sent my held) cookie choices tags h = new_sound cookie choices tags
  restart_sound (open_in shutdown_received my held) cookie choices tags h = new_sound cookie choices tags
  restart_sound (open_in shutdown_ack_sent my held) cookie choices tags h = h

  maintain_sound : (core : Core) (cookie : Cookie) (choices : Choices) → IsSoundCore p core → IsSoundCore p (maintain_change core cookie choices).core
  maintain_sound closed cookie choices h = h
  maintain_sound (cookie_wait my) cookie choices h = h
  maintain_sound (cookie_echoed my held echoed) cookie choices h = (h.0, flush_sound cookie.addressee.tag held (cookie_ack ∷ []) choices.filling h.1)
  maintain_sound (open_in phase my held) cookie choices h = (h.0, flush_sound cookie.addressee.tag held (cookie_ack ∷ []) choices.filling h.1)

  resolved_sound : (core : Core) (cookie : Cookie) (choices : Choices) (resolution : Resolution) → HasTags cookie → IsSoundCore p core
      → IsSoundCore p (resolved_change p core cookie choices resolution).core
  resolved_sound core cookie choices establish_new tags h = new_sound cookie choices tags
  resolved_sound core cookie choices restart tags h = restart_sound core cookie choices tags h
  resolved_sound core cookie choices simultaneous_init tags h = new_sound cookie choices tags
  resolved_sound core cookie choices discard tags h = h
  resolved_sound core cookie choices maintain_existing tags h = maintain_sound core cookie choices h
  resolved_sound core cookie choices invalid_tag tags h = h
  resolved_sound core cookie choices stale tags h = h

  pub read_echo_sound : (core : Core) (header : ℕ) (bytes : List ℕ) (found : Result Cookie (List ℕ)) (choices : Choices) → cookie_of_bytes bytes ≡ found → IsSoundCore p core
      → IsSoundCore p (read_echo_change p core header found choices).core
  read_echo_sound core header bytes (Err text) choices is h = h
  read_echo_sound core header bytes (Ok cookie) choices is h =
      resolved_sound core cookie choices (aged_resolution choices.is_stale (resolve core choices.tie choices.secret header cookie)) (cookie_has_tags bytes cookie is) h
