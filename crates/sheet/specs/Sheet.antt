-- The senders of a sheet: the traffic that they make, and what noting one more does. Assumes nothing.
use Rattle.std.specs.Prelude.{ℕ, ◌<◌, Bool, false, List, [], ◌∷◌, ◌++◌, length, pos, ◌-ℤ◌, ◌==◌, ◌≢◌, nat_le, slice_index_or}
use Rattle.std.specs.List.{list_any}
use Rattle.bus.specs.declared.refusal.Refusal.TheVariants.{Held, Full}
use Rattle.bus.specs.Refused.{Rules}
use Rattle.bus.specs.Frame.{longest}
use Rattle.bus.specs.Sums.{largest_below}
use Rattle.bus.specs.Meaning.{Meaning}
use Rattle.sheet.specs.declared.sender.Sender.{Sender}
use Rattle.sheet.specs.Sender.{span, limits, Lawful}

-- what is read past the end of a list
abbrev pub nobody : Sender
nobody = record { node = 0; identifier = 0; bytes = 0; jitter = 0; spans = [] }

-- streams are numbered from 0, as their senders were noted
abbrev pub sender_of : List Sender → ℕ → Sender
sender_of senders stream = slice_index_or senders stream nobody

-- The places are alike at every moment, so that a cycle of one phase serves every node, and it never turns. Of the instances
-- queued from a moment on, the first arrived up to the jitter earlier, and q of them lie at least s(q) apart.
abbrev pub measured : List Sender → Meaning
measured senders = record {
  streams = length senders;
  node = λ i. (sender_of senders i).node;
  identifier = λ i. (sender_of senders i).identifier;
  longest = λ i. longest (sender_of senders i).bytes;
  cycle = λ _. 1;
  place = λ i _ q. pos (span (sender_of senders i).spans q) -ℤ pos (sender_of senders i).jitter;
  turns = λ _ _. false;
  reach = largest_below (length senders) (λ i. (sender_of senders i).jitter);
}

-- whether an identifier is held
abbrev pub holds : List Sender → ℕ → Bool
holds senders identifier = list_any (λ sender. sender.identifier == identifier) senders

-- what can refuse one more sender
abbrev pub note_rules : List Sender → Sender → Rules
note_rules senders sender = limits sender ++ (holds senders sender.identifier, Held) ∷ (nat_le 64 (length senders), Full) ∷ []

-- every sender keeps its limits
abbrev pub AllLawful : List Sender → Type 0
AllLawful senders = (i : ℕ) → i < length senders → Lawful (sender_of senders i)

-- no two have one identifier
abbrev pub Apart : List Sender → Type 0
Apart senders = (i j : ℕ) → i < j → j < length senders → (sender_of senders i).identifier ≢ (sender_of senders j).identifier
