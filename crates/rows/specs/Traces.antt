-- Samples as the bytes of a trace, and what is read of bytes.
use Rattle.std.specs.Prelude.{◌≡◌, ℕ, ◌*◌, ◌≤◌, cond, List, [], ◌∷◌, ◌++◌, map, length, Some, None, Ok, Err, Option, Result, MatchResult, ◌==◌}
use Rattle.std.specs.List.{flat_map}
use Rattle.std.specs.Option.{option_to_list}
use Rattle.std.specs.Result.{result_err}
use Rattle.stream.specs.declared.refusal.Refusal.{Refusal}
use Rattle.stream.specs.declared.sample.Sample.{Sample}
use Rattle.stream.specs.declared.numbered.Numbered.{Numbered}
use Rattle.stream.specs.Bytes.{held_by, bytes_of}
use Rattle.stream.specs.Words.{State, state_of, unread, kind, last_number, Took}
use Rattle.stream.specs.Sending.{sample_words}
use Rattle.stream.specs.Traces.{fed_by}
use Rattle.arrayvec.specs.ArrayString.{ArrayString}
use Rattle.arrayvec.specs.ArrayVec.{ArrayVec}
use Rattle.rows.specs.declared.slip.Slip.{Slip}
use Rattle.rows.specs.declared.decoder.Decoder.{Decoder}
use Rattle.rows.specs.declared.decoder.Entry.{Entry}
use Rattle.rows.specs.declared.decoder.Entry.TheVariants.{Row, End}
use Rattle.rows.specs.Rows.{row_text, text_of, NoRow}

-- the bytes of words, four each, the high byte first
abbrev pub word_bytes : List ℕ → List ℕ
word_bytes ws = flat_map (λ w. bytes_of (Some w)) ws

-- the bytes by which a sample is sent, and those of a whole list
abbrev pub sample_bytes : Sample → List ℕ
sample_bytes s = word_bytes (sample_words s.gap s.letters)

abbrev pub trace_of : List Sample → List ℕ
trace_of ss = flat_map sample_bytes ss

-- a line was encoded: these are its sample's bytes; or it is no row
pub record RowSent (line bytes : List ℕ) : Type 0 where
  pub sample : Sample
  pub row : line ≡ row_text sample
  pub sent : bytes ≡ sample_bytes sample

abbrev pub EncodedRow : List ℕ → Result (ArrayVec ℕ) Slip → Type 0
EncodedRow line r = MatchResult r (λ v. RowSent line v.items) (NoRow line)

-- a line went to bytes and back: it is written again; or it is no row
abbrev pub Returned : List ℕ → Result ArrayString Slip → Type 0
Returned line r = MatchResult r (λ text. text.bytes ≡ line) (NoRow line)

-- what a decoder says of a word to which the feed answers so
abbrev pub entry_of : ℕ → Result (Option Numbered) Refusal → Result (Option Entry) Refusal
entry_of w (Ok (Some x)) = Ok (Some (Row x.sample))
entry_of w (Ok None) = Ok (cond (kind w == 3) (Some End) None)
entry_of w (Err e) = Err e

-- a decoder whose feed is in the state s is given a word
pub record TookWord (w : ℕ) (s : State) (r : Result (Option Entry) Refusal) (t : State) : Type 0 where
  pub answer : Result (Option Numbered) Refusal
  pub took : Took s w answer t
  pub entry : r ≡ entry_of w answer

abbrev pub TookAny : Option ℕ → State → Result (Option Entry) Refusal → State → Type 0
TookAny None s r t = (r ≡ Ok None) × (t ≡ s)
TookAny (Some w) s r t = TookWord w s r t

-- it is given a byte: the bytes of the word that this completes, if it does, and those still held, are those held before and the new one
pub record Pushed (d : Decoder) (byte : ℕ) (r : Result (Option Entry) Refusal) (e : Decoder) : Type 0 where
  pub word : Option ℕ
  pub bytes : bytes_of word ++ held_by e.held ≡ held_by d.held ++ (byte ∷ [])
  pub took : TookAny word (state_of d.feed) r (state_of e.feed)

-- the row in a decoder's answer, if it is one
abbrev pub row_in : Result (Option Entry) Refusal → Option Sample
row_in (Ok (Some (Row x))) = Some x
row_in (Ok (Some End)) = None
row_in (Ok None) = None
row_in (Err e) = None

-- the entry in it, if it is one
abbrev pub entry_in : Result (Option Entry) Refusal → Option Entry
entry_in (Ok x) = x
entry_in (Err e) = None

-- bytes are given to the decoder d in turn: it answers each so, and behind them it is e
abbrev pub PushedAll : Decoder → List ℕ → List (Result (Option Entry) Refusal) → Decoder → Type 0
PushedAll d [] [] e = d ≡ e
PushedAll d [] (r ∷ rs) e = ⊥
PushedAll d (b ∷ bs) [] e = ⊥
PushedAll d (b ∷ bs) (r ∷ rs) e = (c : Decoder) × Pushed d b r c × PushedAll c bs rs e

-- all words are taken, no byte is left over, and the samples are these
pub record Back (ss : List Sample) (bytes : List ℕ) : Type 0 where
  pub taken : (fed_by bytes).refused ≡ None
  pub whole : length bytes ≡ 4 * (fed_by bytes).count
  pub samples : map (λ x. x.sample) (fed_by bytes).samples ≡ ss

-- what is sent comes back, as long as there are numbers for it
abbrev pub TracesComeBack : Type 0
TracesComeBack = (ss : List Sample) → length ss ≤ last_number → Back ss (trace_of ss)

-- a decoder answered the rows of these samples and nothing else, refused nothing, and holds no byte
pub record Decoded (ss : List Sample) (rs : List (Result (Option Entry) Refusal)) (e : Decoder) : Type 0 where
  pub entries : flat_map (λ r. option_to_list (entry_in r)) rs ≡ map Row ss
  pub refused : flat_map (λ r. option_to_list (result_err r)) rs ≡ []
  pub whole : held_by e.held ≡ []

-- a new decoder makes of what is sent its samples, as long as there are numbers for them
abbrev pub DecodersAnswer : Type 0
DecodersAnswer = (ss : List Sample) → length ss ≤ last_number → (d e : Decoder) (rs : List (Result (Option Entry) Refusal))
    → held_by d.held ≡ [] → state_of d.feed ≡ unread → PushedAll d (trace_of ss) rs e → Decoded ss rs e

-- a text is that of no two lists
abbrev pub TextsTell : Type 0
TextsTell = (ss ts : List Sample) → text_of ss ≡ text_of ts → ss ≡ ts
