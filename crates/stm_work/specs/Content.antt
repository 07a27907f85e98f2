-- The image that the bytes of a file mean.
use Rattle.std.specs.Prelude.{◌≡◌, ◌⊎◌, ℕ, ◌+◌, ◌^◌, ◌<◌, ◌&&◌, ◌==◌, nat_le, not, Bool, true}
use Rattle.std.specs.Prelude.{false, List, [], ◌∷◌, length, Option, Some, None, Result, Ok, Err}
use Rattle.std.specs.Prelude.{All, IsSomeAnd, slice_get}
use Rattle.stm_image.specs.declared.faults.RawFault.TheVariants.{PastEnd}
use Rattle.stm_image.specs.declared.faults.RawFault.TheVariants as raw
use Rattle.stm_image.specs.Joined.{DifferAt, all_pairs_of}
use Rattle.stm_image.specs.Pairs.{Pairs, IsSetOf, raw_pairs}
use Rattle.stm_image.specs.Text.{Means, FaultStands, IsOutOfMemory}
use Rattle.stm_wire.specs.Chip.{ChipData}
use Rattle.stm_wire.specs.Rig.{RigState}
use Rattle.stm_words.specs.declared.image_file.ImageFile.{ImageFile}
use Rattle.stm_words.specs.declared.range.Range.{Range}
use Rattle.stm_words.specs.declared.usage_fault.UsageFault.TheVariants.{RangeNeedsRaw}
use Rattle.stm_session.specs.declared.fault.Fault.TheVariants.{OutOfFlash}
use Rattle.stm_work.specs.declared.content.Content.{Content}
use Rattle.stm_work.specs.declared.content.Content.TheVariants.{Placed, AtBase}
use Rattle.stm_work.specs.declared.failure.Failure.{Failure}
use Rattle.stm_work.specs.declared.failure.Failure.TheVariants.{Session, Hex, Raw, NotRaw, Usage}
use Rattle.stm_work.specs.declared.failure.Failure.TheVariants.{ImagesDiffer, Memory}
use Rattle.stm_work.specs.Conduct.{AsksThenGoesOn}

-- HEX begins with a colon; bytes that are said to be raw are no HEX
abbrev pub is_hex : Bool → List ℕ → Bool
is_hex is_raw [] = false
is_hex is_raw (byte ∷ bytes) = not is_raw && (byte == 0x3A)

-- a length that is given has to have room for so many bytes
abbrev pub has_room : Option ℕ → ℕ → Bool
has_room None size = true
has_room (Some most) size = nat_le size most

-- Raw bytes lie from a place on.
pub record LiesFrom (range : Range) (bytes : List ℕ) (image : Pairs) : Type 0 where
  pub image_is : image ≡ raw_pairs range.start bytes
  pub room : has_room range.length (length bytes) ≡ true

-- or there is no room, they would go on past the last address, or memory is out
abbrev pub IsNoRawImage : ℕ → List ℕ → Failure → Type 0
IsNoRawImage start bytes (Raw PastEnd) = 2 ^ 32 < start + length bytes
IsNoRawImage start bytes (Raw raw.Memory) = Unit {0}
IsNoRawImage start bytes _ = ⊥

abbrev pub IsNoPlace : Range → List ℕ → Failure → Type 0
IsNoPlace range bytes failure =
    IsNoRawImage range.start bytes failure
    ⊎ ((failure ≡ Session OutOfFlash) × (has_room range.length (length bytes) ≡ false))

-- the HEX text is refused
abbrev pub IsNoHex : List ℕ → Failure → Type 0
IsNoHex text (Hex fault) = FaultStands text fault ⊎ IsOutOfMemory text fault
IsNoHex text _ = ⊥

-- it is known where each byte lies
abbrev pub IsContentPlaced : (Pairs → Type 0) → Content → Type 0
IsContentPlaced P (Placed image names) = P image
IsContentPlaced P (AtBase bytes names) = ⊥

-- the bytes lie where the flash begins
abbrev pub IsAtBase : List ℕ → Content → Type 0
IsAtBase bytes (Placed image names) = ⊥
IsAtBase bytes (AtBase own names) = own.items ≡ bytes

-- it holds the same image, or the same bytes
abbrev pub IsCopy : Content → Content → Type 0
IsCopy (Placed image names) content = IsContentPlaced (λ own. own ≡ image) content
IsCopy (AtBase bytes names) content = IsAtBase bytes.items content

-- What comes of a file's bytes, HEX or raw, and of the range that was given.
abbrev pub ComesOf : Bool → Option Range → List ℕ → Result Content Failure → Type 0
ComesOf true None bytes (Ok content) = IsContentPlaced (Means bytes) content
ComesOf true None bytes (Err failure) = IsNoHex bytes failure
ComesOf true (Some range) bytes result = result ≡ Err (Usage RangeNeedsRaw)
ComesOf false None bytes (Ok content) = IsAtBase bytes content
ComesOf false None bytes (Err failure) = ⊥
ComesOf false (Some range) bytes (Ok content) = IsContentPlaced (LiesFrom range bytes) content
ComesOf false (Some range) bytes (Err failure) = IsNoPlace range bytes failure

-- some bytes mean it, by the words that name the image's file
abbrev pub ComesOfFile : ImageFile → Content → Type 0
ComesOfFile image content = (bytes : List ℕ)
    × ComesOf (is_hex image.is_raw bytes) image.range bytes (Ok content)

-- the flash of each chip of a table begins here
abbrev pub IsBaseOf : List ChipData → ℕ → Type 0
IsBaseOf table base = All (λ chip. chip.base ≡ base) table

-- where that lies, whichever chip of a table the device has
abbrev pub IsPlacedBy : List ChipData → Content → Pairs → Type 0
IsPlacedBy table (Placed image names) set = set ≡ image
IsPlacedBy table (AtBase bytes names) set =
    (base : ℕ) × IsBaseOf table base × (set ≡ raw_pairs base bytes.items)

-- the image in a file among others
abbrev pub IsPlacedOf : List ChipData → ImageFile → Pairs → Type 0
IsPlacedOf table image set =
    (content : Content) × ComesOfFile image content × IsPlacedBy table content set

abbrev pub ArePlacedOf : List ChipData → List ImageFile → List Pairs → Type 0
ArePlacedOf table [] [] = Unit {0}
ArePlacedOf table (image ∷ images) (set ∷ sets) =
    IsPlacedOf table image set × ArePlacedOf table images sets
ArePlacedOf table _ _ = ⊥

-- several images are one, which has the bytes of each
abbrev pub AreOne : List ChipData → List ImageFile → Content → Type 0
AreOne table images content = (sets : List Pairs) × ArePlacedOf table images sets
    × IsContentPlaced (λ set. IsSetOf set (all_pairs_of sets)) content

-- one alone is as it is
abbrev pub ComeOfFilesBy : List ChipData → List ImageFile → Content → Type 0
ComeOfFilesBy table (image ∷ []) content = ComesOfFile image content
ComeOfFilesBy table images content = AreOne table images content

abbrev pub ComeOfFiles : List ImageFile → Content → Type 0
ComeOfFiles images content = (table : List ChipData) × ComeOfFilesBy table images content

-- the file of this name is that of an image
abbrev pub IsNamedAt : List ImageFile → ℕ → List ℕ → Type 0
IsNamedAt files place name = IsSomeAnd (slice_get files place) (λ file. file.name.now ≡ name)

-- what is wrong with one of several images is told with its file
abbrev pub NamesImage : Failure → Type 0
NamesImage (Hex why) = ⊥
NamesImage (Raw why) = ⊥
NamesImage (NotRaw what) = ⊥
NamesImage _ = Unit {0}

-- two images are told where they differ, by their files
abbrev pub TellUnlike : List ImageFile → List Pairs → Failure → Type 0
TellUnlike files images (ImagesDiffer one other address) = (first second : ℕ)
    × DifferAt images first second address
    × IsNamedAt files first one.now × IsNamedAt files second other.now
TellUnlike files images failure = failure ≡ Memory

-- raw bytes as an image, from the flash's first byte on
abbrev pub IsRawImage : ℕ → List ℕ → Result Pairs Failure → Type 0
IsRawImage start bytes (Ok image) = image ≡ raw_pairs start bytes
IsRawImage start bytes (Err failure) = IsNoRawImage start bytes failure

-- The image that is placed; or the device is asked where its flash begins.
abbrev pub ImageOn : {R : Type 0} → (R → RigState) → List ChipData → Content → R → R
    → Result Pairs Failure → Type 0
ImageOn view table (Placed image names) old new result = (result ≡ Ok image) × (new ≡ old)
ImageOn view table (AtBase bytes names) old new result =
    AsksThenGoesOn view table (λ fault. Session fault)
    (λ told mid last said. (last ≡ mid) × IsRawImage told.base bytes.items said) old new result
