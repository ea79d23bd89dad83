-- What a read of a record shows of the records that are left.
use Rattle.std.proofs.Common.{◌≡◌, ◌∙◌, sym, refl, ap, ℕ, ◌+◌, true, false, true≢false, List, [], ◌∷◌, length, Option, Some, None, Bor}
use Rattle.csv.specs.Machine.{Read, next_record}
use Rattle.csv.specs.Reading.{ExplainsRead, NextIs, records_from, ReadRecord, ReadsNext, ReadsOn, default_config, expected_len, pending_of}
use Rattle.csv.specs.declared.parser.State.{State}
use Rattle.csv.specs.declared.error.ErrorKind.{ErrorKind}
use Rattle.csv.specs.declared.error.ErrorKind.TheVariants as error
use Rattle.csv.proofs.ReadFacts.{rows-end}
use Rattle.spd_cols.specs.Columns.{Record}
use Rattle.spd_cols.specs.Rows.{FileReader, IsBetweenRecords, IsOfLengths, IsRaggedNext, bytes_left, records_behind, records_left}
use Rattle.spd_cols.proofs.Records.{next_shorter, records_none, records_one}

abbrev told : Bor (List ℕ) → Option (List ℕ)
told bytes = Some bytes.now

-- a read of a record, with what it left
pub record Taken (s : State) (bytes : List ℕ) (fields : Record) (s2 : State) (after : Option (List ℕ)) : Type 0 where
  pub rest : List ℕ
  pub is : next_record default_config s [] [] bytes ≡ Some (fields, s2, rest)
  pub left : after ≡ Some rest

found : (o : Option Read) (fields : Record) (s2 : State) (rest : List ℕ) → NextIs o true fields s2 rest → o ≡ Some (fields, s2, rest)
found None fields s2 rest n = absurd (true≢false n)
found (Some p) fields s2 rest n = rw (n.1, n.2, n.3) refl

taken : (s : State) (bytes : List ℕ) (after : Option (List ℕ)) (fields : Record) (s2 : State)
    → ReadsNext default_config s (Some bytes) after true fields s2 → Taken s bytes fields s2 after
taken s bytes None fields s2 r = absurd r
taken s bytes (Some rest) fields s2 r = record { rest = rest; is = found _ fields s2 rest r; left = refl }

behind : {o : Option (List ℕ)} {bytes : List ℕ} (s : State) → o ≡ Some bytes → records_behind s o ≡ records_from default_config (length bytes + 1) s bytes
behind s e = ap (records_behind s) e

pub read_one : (a b : FileReader) (fields : Record) → IsBetweenRecords a → ReadRecord told a b true fields → ReadsOn a b
    → IsBetweenRecords b × (records_left a ≡ fields ∷ records_left b)
read_one a b fields at r on =
    let t = taken a.state at.bytes (pending_of (told b.rdr) b) fields b.state (rw (at.config, at.known) at r.0) in
    let shorter = next_shorter a.state at.bytes _ at.rests t.is in
    let known : bytes_left b ≡ Some t.rest = rw r.1 t.left in (
      record {
        config = r.2 ∙ at.config;
        trim = r.3 ∙ at.trim;
        strict = on.2 ∙ at.strict;
        ready = (on.4 at.ready).0;
        rests = shorter.1;
        bytes = t.rest;
        known = known;
      },
      behind a.state at.known ∙ records_one a.state at.bytes _ at.rests t.is ∙ ap (λ (rows : List Record). fields ∷ rows) (sym (behind b.state known)),
    )

pub read_none : (a b : FileReader) (fields : Record) → IsBetweenRecords a → ReadRecord told a b false fields → records_left a ≡ []
read_none a b fields at r = behind a.state at.known ∙ records_none a.state at.bytes (rows-end told a b fields default_config at.bytes at.config at.known r)

pub read_ragged : (a b : FileReader) (k : ErrorKind) → IsBetweenRecords a → IsOfLengths k → ExplainsRead told a b false k → IsRaggedNext a
read_ragged a b (error.UnequalLengths pos expected len) at is why =
    let t = taken a.state at.bytes (pending_of (told b.rdr) b) why.3 b.state (rw (at.config, at.known) at why.4) in
    (expected, why.3, _, why.1, behind a.state at.known ∙ records_one a.state at.bytes _ at.rests t.is, λ e. why.2 (sym e ∙ why.5))
read_ragged a b (error.Io e) at is why = absurd is
read_ragged a b (error.Utf8 pos err) at is why = absurd is
read_ragged a b error.OutOfMemory at is why = absurd is
read_ragged a b (error.Serialize text) at is why = absurd is
read_ragged a b (error.Deserialize pos err) at is why = absurd is

some_same : (a b : ℕ) → ◌≡◌ {A = Option ℕ} (Some a) (Some b) → a ≡ b
some_same a b e = cc

-- a record is as wide as is expected
pub read_width : (a b : FileReader) (fields : Record) (n : ℕ) → IsBetweenRecords a → ReadRecord told a b true fields → expected_len a ≡ Some n → length fields ≡ n
read_width a b fields n at r wide =
    let both = r.5 refl at.strict in
    let kept : expected_len b ≡ Some n = rw wide at both.0 in
    some_same _ _ (sym both.1 ∙ kept)
