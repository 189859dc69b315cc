use Rattle.dcsctp_theorem_sockets.proofs.laws.socket_laws.Goals as goal

pub returns : goal.returns
returns c =
    record {
      agree = c.sockets_agree.ensures;
      connect = c.fitting_sockets_connect.ensures;
      numbers = c.socket_effects_in_place.ensures;
      answers = c.socket_requests_end_by_answers.ensures;
      ends = c.sockets_tell_ends.ensures;
      told = c.sockets_tell_effects.ensures;
      held = c.sockets_hold_noted.ensures;
      anew = c.sockets_note_anew.ensures;
      t1 = c.sockets_run_t1.ensures;
      sizes = c.sockets_keep_sizes.ensures;
      bursts = c.sockets_keep_bursts.ensures;
      quiet = c.sockets_wait_quietly.ensures;
    }
