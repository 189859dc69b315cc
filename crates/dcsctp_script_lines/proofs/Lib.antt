mod DigitLemmas
mod SettingLemmas
