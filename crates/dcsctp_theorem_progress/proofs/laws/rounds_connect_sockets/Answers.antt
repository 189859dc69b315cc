use Rattle.dcsctp_theorem_progress.proofs.Throughout.{throughout}
use Rattle.dcsctp_theorem_progress.proofs.laws.rounds_connect_sockets.Goals as goal

pub returns : goal.returns
returns c =
    throughout
    (record {
      trying = c.lost_rounds_are_made_good.ensures;
      fresh = c.fresh_sockets_connect.ensures;
      acks = c.lost_acks_connect.ensures;
      data_acks = c.lost_data_acks_connect.ensures;
      lossy = c.lossy_rounds_lead_on.ensures;
      lossy_rounds = c.lossy_rounds_connect.ensures;
      older = c.older_associations_give_way.ensures;
      older_with_data = c.older_associations_give_way_to_data.ensures;
      older_from_init = c.older_associations_give_way_to_inits.ensures;
      cookies = c.echoed_cookies_are_the_others.ensures;
    })
