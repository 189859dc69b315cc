-- What is known of cookies over every run of two sockets.
use Rattle.dcsctp_theorem_sockets.specs.Cookies.{CookiesWereGiven}
use Rattle.dcsctp_theorem_sockets.specs.Ages.{CookiesAge}

pub record CookieLaws : Type 0 where
  pub given : CookiesWereGiven
  pub ages : CookiesAge
