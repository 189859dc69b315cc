use Rattle.dcsctp_theorem_sockets.proofs.cookies.cookie_laws.Goals as goal

pub returns : goal.returns
returns c = record { given = c.cookies_were_given.ensures; ages = c.cookies_age.ensures }
