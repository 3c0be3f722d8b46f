-- What holds of all pages.
use Rattle.std.specs.Prelude.{◌≡◌, ℕ, ◌^◌, ◌<◌, ◌≤◌, ◌==◌, Bool, false, List, [], ◌∷◌, map, take, Some, slice_get}
use Rattle.std.specs.List.{list_any}
use Rattle.std.specs.Option.{option_map}
use Rattle.steps.specs.declared.step.Step.{Step}
use Rattle.machine_steps.specs.Machines.{IsMachine, MachineLists, machine_of}
use Rattle.machine_steps.specs.Runs.{IsRun, machine_after}
use Rattle.machine_views.specs.Places.{place_at}
use Rattle.machine_views.specs.Views.{view_of}
use Rattle.machine_views.specs.declared.view.PlaceView.{PlaceView}
use Rattle.machine_views.specs.declared.view.ProcessorView.{ProcessorView}
use Rattle.machine_views.specs.declared.view.ReplyView.{ReplyView}
use Rattle.machine_views.specs.declared.view.RequestView.{RequestView}
use Rattle.machine_views.specs.declared.view.SharedWord.{SharedWord}
use Rattle.page_command.specs.Changes.{Change, with_changes}
use Rattle.page_command.specs.Openings.{opening_changes}
use Rattle.page_command.specs.Pages.{escaped}
use Rattle.page_command.specs.Steps.{changes_from}
use Rattle.page_command.specs.Views.{AreSameViews, Content, Core, Messages, Part, Place, Stands, Value, View, Word}
use Rattle.page_command.specs.Views.{blank, view_at, view_on}

-- the view that the opening line gives
abbrev pub opening_view : MachineLists → View
opening_view m = with_changes blank (opening_changes m)

-- the view after the changes of each of these steps
unfoldable pub view_after : View → List (List Change) → View
view_after view [] = view
view_after view (changes ∷ rest) = view_after (with_changes view changes) rest

-- The opening line gives the view of the machine.
abbrev pub OpeningIsShown : Type 0
OpeningIsShown = (m : MachineLists) → IsMachine m → AreSameViews m.config.k (opening_view m) (view_at m)

-- The changes of the first steps of a list, put on the view that the opening line gives, give the view of the machine
-- after these steps.
abbrev pub ChangesLeadToViews : Type 0
ChangesLeadToViews = (m : MachineLists) → IsMachine m → (steps : List Step) (count : ℕ) →
    AreSameViews m.config.k
    (view_after (opening_view m) (take count (changes_from m.config m.code (machine_of m (λ p. [])) steps)))
    (view_on m.config m.code (machine_after m (take count steps)))

-- The view of the theory's machine after steps is that of the machine.
abbrev pub ViewsAreOfMachines : Type 0
ViewsAreOfMachines = (opening machine : MachineLists) (steps : List Step) → IsRun opening steps machine →
    (part : Part) → view_on opening.config opening.code (machine_after opening steps) part ≡ view_at machine part

-- ---- pages and pictures

-- what a processor of a picture holds, in the terms of a page
abbrev pub content_of_processor : ProcessorView → Content
content_of_processor v = Stands v.pc v.status (option_map (λ (w : SharedWord). w.number) v.word)

-- what a place of a picture holds
abbrev pub content_of_place : PlaceView → Content
content_of_place v = Messages (map (λ (x : RequestView). x.request) v.requests) v.records
    (map (λ (y : ReplyView). y.reply) v.replies)

-- A picture of a machine has each of its processors, and shows of it what a page shows: its `pc`, its status and the
-- word of its open reference.
abbrev pub PicturesShowProcessors : Type 0
PicturesShowProcessors = (m : MachineLists) (steps p : ℕ) → p < 2 ^ m.config.k →
    option_map content_of_processor (slice_get (view_of m steps).processors p) ≡ Some (view_at m (Core p))

-- It has each place of the network, and shows of it what a page shows: the same requests, records and replies, in their
-- order.
abbrev pub PicturesShowPlaces : Type 0
PicturesShowPlaces = (m : MachineLists) (steps d w : ℕ) → d ≤ m.config.k → w < 2 ^ m.config.k →
    option_map content_of_place (place_at (view_of m steps).places d w) ≡ Some (view_at m (Place d w))

-- The words that it shows have the values that a page shows.
abbrev pub PicturesShowWords : Type 0
PicturesShowWords = (m : MachineLists) (steps p : ℕ) (v : ProcessorView) (word : SharedWord) → p < 2 ^ m.config.k →
    slice_get (view_of m steps).processors p ≡ Some v → v.word ≡ Some word →
    Value word.value ≡ view_at m (Word word.number)

-- ---- escapes

-- whether a byte begins a tag
abbrev pub is_tag : ℕ → Bool
is_tag byte = byte == 60

-- whether a tag begins in a text
abbrev pub has_tag : List ℕ → Bool
has_tag text = list_any is_tag text

-- No tag begins in an escaped text, so the data ends nowhere before its end.
abbrev pub NoTagBegins : Type 0
NoTagBegins = (text : List ℕ) → has_tag (escaped text) ≡ false
