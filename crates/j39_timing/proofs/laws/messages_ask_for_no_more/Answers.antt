use Rattle.j39_timing.proofs.AskedFrames.{announcements_asked, apart_want_no_more, packets_asked}
use Rattle.j39_timing.proofs.laws.messages_ask_for_no_more.Goals as goal

pub returns : goal.returns
returns c = record {
  apart = apart_want_no_more;
  packets = λ s planned of j demand messages wanted frames longest t span. packets_asked s planned of j demand messages wanted frames t span longest;
  announcements = λ s planned of j demand messages wanted frames are t span. announcements_asked s planned of j demand messages wanted frames t span are;
}
