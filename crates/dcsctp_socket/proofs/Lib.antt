mod AnsweredCalls
mod SoundCalls
