-- The view of a machine that a picture draws shows the same as the view of a page.
use Rattle.std.proofs.Common.{◌≡◌, ℕ, zero, suc, ◌+◌, ◌^◌, ◌<◌, ◌≤◌, Bool, true, false, List, [], ◌∷◌, Option, Some, None}
use Rattle.std.proofs.Common.{refl, sym, ap, ◌∙◌, arith}
use Rattle.std.specs.Prelude.{map, slice_get, if◌then◌else◌, option_and_then}
use Rattle.std.specs.List.{range_with_len}
use Rattle.std.specs.Option.{option_map}
use Rattle.std.proofs.lemmas.Option.{slice_get-map}
use Rattle.messages.specs.Network.{Net}
use Rattle.messages.specs.declared.message.Request.{Request}
use Rattle.messages.specs.declared.message.Reply.{Reply}
use Rattle.omega_network.specs.Networks.{net_of}
use Rattle.machine_steps.specs.Machines.{MachineLists}
use Rattle.machine_steps.specs.machine_theory.Processors.{open_at}
use Rattle.machine_views.specs.Places.{each_below, place_at, place_view, places_at, reply_view, request_view}
use Rattle.machine_views.specs.Views.{next_word, processor_view, shared_word, view_of}
use Rattle.machine_views.specs.declared.view.PlaceView.{PlaceView}
use Rattle.machine_views.specs.declared.view.ProcessorView.{ProcessorView}
use Rattle.machine_views.specs.declared.view.ReplyView.{ReplyView}
use Rattle.machine_views.specs.declared.view.RequestView.{RequestView}
use Rattle.machine_views.specs.declared.view.SharedWord.{SharedWord}
use Rattle.page_command.specs.Laws.{PicturesShowPlaces, PicturesShowProcessors, PicturesShowWords, content_of_place, content_of_processor}
use Rattle.page_command.specs.Views.{Messages, Stands, Value, Word, view_at, view_by}

-- ---- items by their numbers

-- a number of a range, by its place
in_range : (a n i : ℕ) → i < n → slice_get (range_with_len a n) i ≡ Some (a + i)
in_range a zero i h = absurd (omega arith)
in_range a (suc n) zero h = ap Some (omega arith)
in_range a (suc n) (suc i) h = in_range (a + 1) n i (omega arith) ∙ ap Some (omega arith)

-- an item of a list that has one for each number below a count
item_there : {A : Type 0} (item_at : ℕ → A) (n i : ℕ) → i < n → slice_get (each_below item_at n) i ≡ Some (item_at i)
item_there item_at n i h =
    slice_get-map item_at (range_with_len 0 n) i
    ∙ ap (option_map item_at) (in_range 0 n i h)
    ∙ ap (λ j. Some (item_at j)) (omega arith)

-- ---- processors

-- the number of a shared word that is shown, if one is
word_number : (m : MachineLists) (w : Option ℕ) → option_map (λ (w : SharedWord). w.number) (option_map (shared_word m) w) ≡ w
word_number m None = refl
word_number m (Some n) = refl

word_shown : (m : MachineLists) (w : Option ℕ) (is_open : Bool) →
    option_map (λ (w : SharedWord). w.number) (if is_open then option_map (shared_word m) w else None) ≡ (if is_open then w else None)
word_shown m w true = word_number m w
word_shown m w false = refl

-- A processor of a picture shows what that of a page shows.
pub processors_shown : PicturesShowProcessors
unfolding view_of view_by
processors_shown m steps p there =
    ap (option_map content_of_processor) (item_there (processor_view m) (2 ^ m.config.k) p there)
    ∙ ap (λ word. Some (Stands (processor_view m p).pc (processor_view m p).status word)) (word_shown m (next_word m p) (open_at m.ports p))

-- ---- places

-- the requests without their groups
requests_shown : (net : Net) (wires d : ℕ) (requests : List Request) →
    map (λ (x : RequestView). x.request) (map (request_view net wires d) requests) ≡ requests
requests_shown net wires d [] = refl
requests_shown net wires d (x ∷ xs) = ap (λ ys. x ∷ ys) (requests_shown net wires d xs)

-- the replies without theirs
replies_shown : (net : Net) (wires d : ℕ) (replies : List Reply) →
    map (λ (y : ReplyView). y.reply) (map (reply_view net wires d) replies) ≡ replies
replies_shown net wires d [] = refl
replies_shown net wires d (y ∷ ys) = ap (λ zs. y ∷ zs) (replies_shown net wires d ys)

-- the place at a depth and on a wire
place_there : (net : Net) (k d w : ℕ) → d ≤ k → w < 2 ^ k →
    place_at (each_below (places_at net k) (suc k)) d w ≡ Some (place_view net (2 ^ k) d w)
place_there net k d w depth wire =
    ap (option_and_then (λ (wires : List PlaceView). slice_get wires w)) (item_there (places_at net k) (suc k) d (omega arith))
    ∙ item_there (place_view net (2 ^ k) d) (2 ^ k) w wire

-- A place of a picture shows what that of a page shows.
pub places_shown : PicturesShowPlaces
unfolding view_of view_by
places_shown m steps d w depth wire =
    let net = net_of m.network in
    let n = 2 ^ m.config.k in
    ap (option_map content_of_place) (place_there net m.config.k d w depth wire)
    ∙ ap (λ requests. Some (Messages requests (place_view net n d w).records
    (map (λ (y : ReplyView). y.reply) (place_view net n d w).replies))) (requests_shown net n d (net.requests d w))
    ∙ ap (λ replies. Some (Messages (net.requests d w) (place_view net n d w).records replies)) (replies_shown net n d (net.replies d w))

-- ---- words

some_inj : {A : Type 0} (x y : A) → Some x ≡ Some y → x ≡ y
some_inj x y is = cc

-- the value of the word of an open reference
value_shown : (m : MachineLists) (w : Option ℕ) (is_open : Bool) (word : SharedWord) →
    (if is_open then option_map (shared_word m) w else None) ≡ Some word → Value word.value ≡ view_at m (Word word.number)
unfolding view_by
value_shown m (Some n) true word is =
    let same : shared_word m n ≡ word = some_inj (shared_word m n) word is in
    ap (λ (s : SharedWord). Value s.value) (sym same) ∙ ap (λ (s : SharedWord). view_at m (Word s.number)) same
value_shown m None true word is = absurd cc
value_shown m w false word is = absurd cc

-- A word that a picture shows has the value that a page shows.
pub words_shown : PicturesShowWords
unfolding view_of
words_shown m steps p v word there found has =
    let same : processor_view m p ≡ v = some_inj (processor_view m p) v (sym (item_there (processor_view m) (2 ^ m.config.k) p there) ∙ found) in
    value_shown m (next_word m p) (open_at m.ports p) word (ap (λ (x : ProcessorView). x.word) same ∙ has)
