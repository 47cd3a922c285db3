-- Records as bytes: one byte of kind, then the body; numbers of several bytes have the lowest first.
use Rattle.std.specs.Prelude.{◌≡◌, ℕ, ◌+◌, ◌*◌, ◌/◌, ◌%◌, ◌<◌, Bool, cond, ◌&&◌, List, [], ◌∷◌, ◌++◌, length, drop, Some, None, Option, ◌==◌, ◌≢◌, nat_le, slice_index}
use Rattle.std.specs.Option.{option_map, unwrap_or}
use Rattle.certificate.specs.declared.record.Record.{Record}
use Rattle.certificate.specs.declared.record.Record.TheVariants.{Claim, Literal, ClauseEnd, FrameEnd, Take, Resolve, RefutationEnd, Bit, RowEnd, End}

-- a number as four bytes
abbrev pub le32 : ℕ → List ℕ
le32 w = w % 256 ∷ w / 256 % 256 ∷ w / 65536 % 256 ∷ w / 16777216 ∷ []

-- a record as bytes
abbrev pub encode : Record → List ℕ
encode (Claim c n) = 1 ∷ c ∷ le32 n
encode (Literal l) = 2 ∷ le32 l
encode ClauseEnd = 3 ∷ []
encode FrameEnd = 4 ∷ []
encode (Take n) = 5 ∷ le32 n
encode (Resolve l r p) = 6 ∷ (le32 l ++ (le32 r ++ le32 p))
encode RefutationEnd = 7 ∷ []
encode (Bit b) = 8 ∷ b ∷ []
encode RowEnd = 9 ∷ []
encode End = 10 ∷ []

-- records one after another
abbrev pub encodes : List Record → List ℕ
encodes [] = []
encodes (r ∷ rs) = encode r ++ encodes rs

-- the number in four bytes
abbrev pub word : List ℕ → ℕ → ℕ
word bs i = slice_index bs i + slice_index bs (i + 1) * 256 + slice_index bs (i + 2) * 65536 + slice_index bs (i + 3) * 16777216

-- the bytes begin with a kind, and a record of so many bytes is whole
abbrev pub begins : List ℕ → ℕ → ℕ → Bool
begins bs kind size = nat_le size (length bs) && slice_index bs 0 == kind

-- the first record of the bytes where it has no body, with the bytes after it
unfoldable pub read_bare : List ℕ → Option (Record × List ℕ)
read_bare bs =
    cond (begins bs 3 1) (Some (ClauseEnd, drop 1 bs))
    (cond (begins bs 4 1) (Some (FrameEnd, drop 1 bs))
    (cond (begins bs 7 1) (Some (RefutationEnd, drop 1 bs))
    (cond (begins bs 9 1) (Some (RowEnd, drop 1 bs))
    (cond (begins bs 10 1) (Some (End, drop 1 bs)) None))))

-- the first record of the bytes, with the bytes after it
unfoldable pub read : List ℕ → Option (Record × List ℕ)
read bs =
    cond (begins bs 1 6) (Some (Claim (slice_index bs 1) (word bs 2), drop 6 bs))
    (cond (begins bs 2 5) (Some (Literal (word bs 1), drop 5 bs))
    (cond (begins bs 5 5) (Some (Take (word bs 1), drop 5 bs))
    (cond (begins bs 6 13) (Some (Resolve (word bs 1) (word bs 5) (word bs 9), drop 13 bs))
    (cond (begins bs 8 2) (Some (Bit (slice_index bs 1), drop 2 bs)) (read_bare bs)))))

-- the first record alone
abbrev pub record_of : List ℕ → Option Record
record_of bs = option_map (λ p. p.0) (read bs)

-- what is left after the first record; all, where there is none
abbrev pub left_of : List ℕ → List ℕ
left_of bs = unwrap_or (option_map (λ p. p.1) (read bs)) bs

-- a record is taken exactly where the bytes are its encoding and what is left; none, where they begin with no encoding
abbrev pub Taken : List ℕ → List ℕ → Option Record → Type 0
Taken before after (Some r) = (before ≡ encode r ++ after) × ((q : Record) (more : List ℕ) → before ≡ encode q ++ more → (q ≡ r) × (more ≡ after))
Taken before after None = (after ≡ before) × ((q : Record) (more : List ℕ) → before ≢ encode q ++ more)

-- each is a byte
abbrev pub Bytes : List ℕ → Type 0
Bytes bs = (i : ℕ) → slice_index bs i < 256
