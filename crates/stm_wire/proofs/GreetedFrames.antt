-- A stop in a frame of a session leaves a device that may be greeted.
use Rattle.std.proofs.Common.{lit≤, lit<, ◌≡◌, ⊎_elim, ℕ, zero, suc, ◌+◌, ◌-◌, ◌/◌, ◌%◌, ◌<◌, ◌≤◌, false, eqb, List, [], ◌∷◌, ◌++◌, length, take, drop, Option, Some, refl, sym, ◌∙◌, subst, arith}
use Rattle.std.specs.List.{Contains}
use Rattle.std.proofs.lemmas.Bool.{cases_lt}
use Rattle.std.proofs.lemmas.List.{length-append, take-append-le, take_all}
use Rattle.stm_wire.proofs.Names.{ack, address_bytes, answer, asks, Awaits, change_of, ChipData, command, complement, Connected, Device, erase_frame, EraseKind, erases, Fed, Feeds, get}
use Rattle.stm_wire.proofs.Names.{HarmlessWithin, InPage, intended_pages, Intent, IsDevice, IsFrameUnder, IsGreetedSafely, IsOpen, IsQuestion, IsRefusedIn, IsSettled, LosesOwed, LossMayBeGreeted}
use Rattle.stm_wire.proofs.Names.{MayBeGreeted, most_greeted, most_under, page_count, page_limit, PartlyFed, phase_after, SendingMayBeGreeted, settling_byte, with_checksum, write_frame, writes, xor}
use Rattle.stm_wire.specs.declared.chip.EraseKind.TheVariants.{Page, Extended}
use Rattle.stm_wire.specs.declared.intent.Intent.TheVariants.{Erase, Program}
use Rattle.stm_wire.specs.Stopped.{get_id, read}
use Rattle.stm_wire.proofs.Flash.{effect_within}
use Rattle.stm_wire.proofs.Mild.{Mild}
use Rattle.stm_wire.proofs.Bound.{CanCount, IsCounted, counted_more}
use Rattle.stm_wire.proofs.Closed.{harmless_owed, received_alike}
use Rattle.stm_wire.proofs.Ending.{open_more}
use Rattle.stm_wire.proofs.Enough.{byte_small, counts_none, no_count, opened}
use Rattle.stm_wire.proofs.Pages.{page_inside}
use Rattle.stm_wire.proofs.Steps.{replies_along}
use Rattle.stm_wire.proofs.Stops.{IsWhole, Suffices, along-take}
use Rattle.stm_wire.proofs.Stops as stops
use Rattle.stm_wire.proofs.GreetedRests.{mild_first, get_greeted, id_greeted, read_greeted, write_greeted}
use Rattle.stm_wire.proofs.Greeted.{erase_enough, erase_mild, first_enough, greet, greetable, greeted_fewer, one_greetable, short, short_least, within_greeted}
use Rattle.stm_wire.proofs.Stopped.{byte_of, erasable, mild_get_frame, mild_id_frame, mild_read_frame, mild_erase_frame, mild_write_frame, write_confined}
use Rattle.stm_wire.proofs.StoppedFrames.{erase_body, erase_check, erase_suffices, erase_whole, frame_of, get_whole, id_whole, read_whole, read_suffices, sending_is_harmless, write_suffices, write_whole}

-- what is owed changes nothing else

pub within_owed : (most byte : ℕ) (pages : List ℕ) (d : Device) (o : List ℕ) → HarmlessWithin most d byte pages → HarmlessWithin most (record d { owed = o }) byte pages
within_owed most byte pages d o h = record { harmless = harmless_owed byte pages d o h.harmless; awaits = h.awaits }

safe_owed : (most byte : ℕ) (pages : List ℕ) (d : Device) (o : List ℕ) → ((new : Device) → Feeds 0x7F d new → IsGreetedSafely most byte pages d new) → (new : Device) → Feeds 0x7F (record d { owed = o }) new → IsGreetedSafely most byte pages (record d { owed = o }) new
safe_owed most byte pages d o safe new f =
    let (new', r, a) = received_alike 0x7F d new o d.phase f.receives in
    let g = safe new' (record { receives = r }) in
    subst (λ (x : Device). IsGreetedSafely most byte pages (record d { owed = o }) x) (sym a.is)
    (record { same_chip = g.same_chip; flash = g.flash; harmless = within_owed most byte pages new' a.owed g.harmless })

safe_loses : (most byte : ℕ) (pages : List ℕ) (d e : Device) → LosesOwed d e → ((new : Device) → Feeds 0x7F d new → IsGreetedSafely most byte pages d new) → (new : Device) → Feeds 0x7F e new → IsGreetedSafely most byte pages e new
safe_loses most byte pages d e (n, same) safe = subst (λ (x : Device). (new : Device) → Feeds 0x7F x new → IsGreetedSafely most byte pages x new) (sym same) (safe_owed most byte pages d _ safe)

pub loss_may_be_greeted : LossMayBeGreeted
loss_may_be_greeted old new intent pages g (n, same) = subst (λ (x : Device). MayBeGreeted x intent pages) (sym same) (record {
  now = within_owed (most_greeted old.chip.kind intent) (settling_byte intent) pages old (drop n old.owed) g.now;
  greeted = safe_owed (most_greeted old.chip.kind intent) (settling_byte intent) pages old (drop n old.owed) g.greeted;
})

-- a stop in a frame which is that of a whole body

module _ (old : Device) (body : List ℕ) (last : ℕ) (is : IsDevice old) (settled : IsSettled old) (whole : IsWhole old body last) (most byte : ℕ) (plain pages : List ℕ) (least : 267 ≤ most)
    (mild : (j : ℕ) → Mild old.chip old.codes byte plain (take j (body ++ last ∷ [])))
    (greeted : (j : ℕ) → Mild old.chip old.codes byte pages (take j (body ++ last ∷ []) ++ 0x7F ∷ []))
    (enough : (n : ℕ) → IsOpen old.chip old.codes (take n (body ++ last ∷ []) ++ 0x7F ∷ []) → IsRefusedIn old.chip old.codes byte most (take n (body ++ last ∷ []) ++ 0x7F ∷ [])) where
  abbrev SafeAt : Device → Type 0
  SafeAt d = (new : Device) → Feeds 0x7F d new → IsGreetedSafely most byte pages d new

  abbrev frame : List ℕ
  frame = body ++ last ∷ []

  within_safe : (n : ℕ) (mid : Device) → n ≤ length body → Fed (take n frame) old mid → SafeAt mid
  within_safe n mid le f =
      let same = take-append-le n body (last ∷ []) le in
      let next : Device = record old { owed = replies_along [] (take n body); phase = Connected (take n body) } in
      let open' : IsOpen old.chip old.codes (take n body) = opened old.chip old.codes (take n body) (along-take old.chip old.codes [] body n whole.along) in
      subst SafeAt (sym (stops.within old body last is settled whole.along n mid le f))
      (λ new fed. greet most byte pages next new (take n body) (omega arith) is.size refl
      (subst (λ (xs : List ℕ). Mild old.chip old.codes byte pages (xs ++ 0x7F ∷ [])) same (greeted n))
      (λ v. subst (λ (xs : List ℕ). IsRefusedIn old.chip old.codes byte most (xs ++ 0x7F ∷ [])) same (enough n (subst (λ (xs : List ℕ). IsOpen old.chip old.codes (xs ++ 0x7F ∷ [])) (sym same) (open_more old.chip old.codes (take n body) 0x7F open' v)))) fed)

  done_safe : (mid : Device) → Fed frame old mid → SafeAt mid
  done_safe mid f =
      let fits = stops.fits old body last is settled whole byte plain mild in
      let done = stops.at_end old body last is settled whole mid f in
      let next : Device = record old { flash = done.0; owed = replies_along [] body ++ ack ∷ answer old.chip old.version old.codes old.flash frame; phase = phase_after frame } in
      let changed = effect_within old.chip plain (change_of frame) old.flash done.0 is.size fits.1 done.1 in
      subst SafeAt (sym done.2)
      (λ new fed. greet most byte pages next new [] (omega arith) (changed.same_length ∙ is.size) fits.0 (mild_first old.chip old.codes is.no_connect byte pages) (λ v. first_enough old.chip old.codes is.no_connect byte most least) fed)

  pub stopped_safe : (d : Device) → PartlyFed frame old d → SafeAt d
  stopped_safe d (n, (mid, f, lost)) = safe_loses most byte pages mid d lost (⊎_elim
      (λ (lt : n < length body + 1). within_safe n mid (omega arith) f)
      (λ (ge : length body + 1 ≤ n). done_safe mid (subst (λ (xs : List ℕ). Fed xs old mid) (take_all n frame (omega (arith, length-append body (last ∷ [])))) f))
      (cases_lt n (length body + 1)))

-- the counts behind one 7F are bytes too
counted_greeted : (c : ℕ) (frame : List ℕ) → ((n : ℕ) → IsCounted (take n (c ∷ frame))) → (n : ℕ) → IsCounted (take n (c ∷ frame) ++ 0x7F ∷ [])
counted_greeted c frame counts zero = tt
counted_greeted c frame counts (suc n) = counted_more c (take n frame) 0x7F (λ _. lit< tt, λ _. lit< tt) (counts (suc n))

short_safe : (old d : Device) (intent : Option Intent) (pages frame body : List ℕ) (last c : ℕ) (rest : List ℕ) → IsDevice old → IsSettled old → IsWhole old body last → frame ≡ body ++ last ∷ [] → body ++ last ∷ [] ≡ c ∷ rest → CanCount c (settling_byte intent) → eqb c 0x44 ≡ false
    → ((j : ℕ) → Mild old.chip old.codes (settling_byte intent) pages (take j (c ∷ rest))) → ((n : ℕ) → IsCounted (take n (c ∷ rest))) → ((j : ℕ) → Mild old.chip old.codes (settling_byte intent) pages (take j (c ∷ rest) ++ 0x7F ∷ []))
    → PartlyFed frame old d → (new : Device) → Feeds 0x7F d new → IsGreetedSafely (most_greeted old.chip.kind intent) (settling_byte intent) pages d new
short_safe old d intent pages frame body last c rest is settled whole e same can other mild counts greeted fed =
    let byte = settling_byte intent in
    let most = most_greeted old.chip.kind intent in
    let least = short_least old.chip.kind intent in
    stopped_safe old body last is settled whole most byte pages pages least
    (subst (λ (f : List ℕ). (j : ℕ) → Mild old.chip old.codes byte pages (take j f)) (sym same) mild)
    (subst (λ (f : List ℕ). (j : ℕ) → Mild old.chip old.codes byte pages (take j f ++ 0x7F ∷ [])) (sym same) greeted)
    (subst (λ (f : List ℕ). (n : ℕ) → IsOpen old.chip old.codes (take n f ++ 0x7F ∷ []) → IsRefusedIn old.chip old.codes byte most (take n f ++ 0x7F ∷ [])) (sym same)
    (λ n o. short old.chip old.codes is.no_connect byte most c rest can other least n (counted_greeted c rest counts n) o))
    d (subst (λ (f : List ℕ). PartlyFed f old d) e fed)

abbrev SafeOf : Device → Device → Option Intent → List ℕ → Type 0
SafeOf old d intent pages = (new : Device) → Feeds 0x7F d new → IsGreetedSafely (most_greeted old.chip.kind intent) (settling_byte intent) pages d new

question_safe : (old d : Device) (intent : Option Intent) (pages frame : List ℕ) → IsDevice old → IsSettled old → IsQuestion old.chip frame → PartlyFed frame old d → SafeOf old d intent pages
question_safe old d intent pages frame is settled (get e) fed = let byte = settling_byte intent in
    short_safe old d intent pages frame (0x00 ∷ []) 0xFF 0x00 (0xFF ∷ []) is settled (get_whole old is) e refl (no_count 0x00 byte refl refl) refl (mild_get_frame old.chip old.codes byte pages)
    (counts_none 0x00 0xFF [] refl refl) (get_greeted old.chip old.codes is.no_connect byte pages (0xFF ∷ [])) fed
question_safe old d intent pages frame is settled (get_id e) fed = let byte = settling_byte intent in
    short_safe old d intent pages frame (0x02 ∷ []) 0xFD 0x02 (0xFD ∷ []) is settled (id_whole old is) e refl (no_count 0x02 byte refl refl) refl (mild_id_frame old.chip old.codes byte pages)
    (counts_none 0x02 0xFD [] refl refl) (id_greeted old.chip old.codes is.no_connect byte pages (0xFD ∷ [])) fed
question_safe old d intent pages frame is settled (read address size some few fits e) fed =
    let byte = settling_byte intent in
    let rest = 0xEE ∷ with_checksum (address_bytes address) ++ command (size - 1) in
    short_safe old d intent pages frame (command 0x11 ++ with_checksum (address_bytes address) ++ (size - 1) ∷ []) (complement (size - 1)) 0x11 rest is settled (read_whole old is address size some few fits) e refl
    (no_count 0x11 byte refl refl) refl (mild_read_frame old.chip old.codes byte pages address size) (read_suffices old byte 267 address size (lit≤ tt)).counted (read_greeted old.chip old.codes is.no_connect byte pages rest) fed

erase_counted : (kind : EraseKind) (N : ℕ) → ((n : ℕ) → IsCounted (take n (erase_frame kind N))) → (n : ℕ) → IsCounted (take n (erase_frame kind N) ++ 0x7F ∷ [])
erase_counted Page N counts n = counted_greeted 0x43 (0xBC ∷ 0 ∷ N ∷ xor (0 ∷ N ∷ []) ∷ []) counts n
erase_counted Extended N counts n = counted_greeted 0x44 (0xBB ∷ 0 ∷ 0 ∷ N / 256 ∷ N % 256 ∷ xor (0 ∷ 0 ∷ N / 256 ∷ N % 256 ∷ []) ∷ []) counts n

erase_safe : (old d : Device) (N : ℕ) (frame : List ℕ) → IsDevice old → IsSettled old → N < page_count old.chip → frame ≡ erase_frame old.chip.kind N → PartlyFed frame old d → d.chip ≡ old.chip → SafeOf old d (Some (Erase N)) (intended_pages (Some (Erase N)))
erase_safe old d N frame is settled here e fed chip new f =
    let limit = is.chip.last_page in
    let kind = old.chip.kind in
    let small : N < page_limit kind = omega (arith, here, limit) in
    let byte = byte_of N in
    let most = most_greeted kind (Some (Erase N)) in
    let pages = greetable kind N in
    let suffices = erase_suffices old kind byte N is.erase (byte_small (Some (Erase N))) in
    let codes = old.codes in
    let inside : (n : ℕ) → n < page_count d.chip → Contains pages n → Contains (intended_pages (Some (Erase N))) n
    = λ n le c. one_greetable kind N n (omega (arith, limit, subst (λ (x : ChipData). n < page_count x) chip le)) c in
    greeted_fewer most byte (intended_pages (Some (Erase N))) pages d new inside
    (stopped_safe old (erase_body kind N) (erase_check kind N) is settled (erase_whole old kind N is.erase here) most byte (erasable kind N) pages (short_least kind (Some (Erase N)))
    (λ j. subst (λ (x : List ℕ). Mild old.chip codes byte (erasable kind N) (take j x)) (sym (frame_of kind N)) (mild_erase_frame old.chip codes kind N small j))
    (λ j. subst (λ (x : List ℕ). Mild old.chip codes byte pages (take j x ++ 0x7F ∷ [])) (sym (frame_of kind N)) (erase_mild old.chip codes is.no_connect kind N small j))
    (λ n. subst (λ (x : List ℕ). IsOpen old.chip codes (take n x ++ 0x7F ∷ []) → IsRefusedIn old.chip codes byte most (take n x ++ 0x7F ∷ [])) (sym (frame_of kind N))
    (λ o. erase_enough old.chip codes is.no_connect kind N is.erase n (erase_counted kind N suffices.counted n) o))
    d (subst (λ (x : List ℕ). PartlyFed x old d) (e ∙ sym (frame_of kind N)) fed) new f)

write_safe : (old d : Device) (N address : ℕ) (sent frame : List ℕ) → IsDevice old → IsSettled old → 1 ≤ length sent → length sent ≤ 256 → InPage old.chip N address (length sent) → frame ≡ write_frame address sent → PartlyFed frame old d → SafeOf old d (Some (Program N)) (N ∷ [])
write_safe old d N address sent frame is settled some few inside e fed =
    short_safe old d (Some (Program N)) (N ∷ []) frame (command 0x31 ++ with_checksum (address_bytes address) ++ (length sent - 1) ∷ sent) (xor ((length sent - 1) ∷ sent)) 0x31
    (0xCE ∷ with_checksum (address_bytes address) ++ with_checksum ((length sent - 1) ∷ sent)) is settled (write_whole old is address sent some few (page_inside old.chip N address (length sent) inside)) e refl
    (λ _. lit< tt, λ _. lit< tt) refl (mild_write_frame old.chip old.codes N address sent some inside) (write_suffices old 2 address sent (lit< tt) few).counted
    (write_greeted old.chip old.codes is.no_connect (N ∷ []) (address / 16777216) (address / 65536 % 256) (address / 256 % 256) (address % 256) (xor (address_bytes address)) (length sent - 1)
    (sent ++ xor ((length sent - 1) ∷ sent) ∷ []) (write_confined old.chip N address sent some inside)) fed

frame_safe : (old d : Device) (intent : Option Intent) (frame : List ℕ) → IsDevice old → IsSettled old → IsFrameUnder old.chip intent frame → PartlyFed frame old d → d.chip ≡ old.chip → SafeOf old d intent (intended_pages intent)
frame_safe old d intent frame is settled (asks question) fed chip = question_safe old d intent (intended_pages intent) frame is settled question fed
frame_safe old d intent frame is settled (erases page i here e) fed chip =
    subst (λ (x : Option Intent). SafeOf old d x (intended_pages x)) (sym i) (erase_safe old d page frame is settled here e fed chip)
frame_safe old d intent frame is settled (writes page address sent i some few inside e) fed chip =
    subst (λ (x : Option Intent). SafeOf old d x (intended_pages x)) (sym i) (write_safe old d page address sent frame is settled some few inside e fed)

pub sending_may_be_greeted : SendingMayBeGreeted
sending_may_be_greeted old d intent frame is settled under fed =
    let s = sending_is_harmless old d intent frame is settled under fed in
    record {
      now = within_greeted d intent (intended_pages intent) s.harmless (subst (λ (chip : ChipData). Awaits (settling_byte intent) (most_under chip.kind intent) d) (sym s.same_chip) s.awaits);
      greeted = subst (λ (chip : ChipData). (new : Device) → Feeds 0x7F d new → IsGreetedSafely (most_greeted chip.kind intent) (settling_byte intent) (intended_pages intent) d new) (sym s.same_chip)
          (frame_safe old d intent frame is settled under fed s.same_chip);
    }
