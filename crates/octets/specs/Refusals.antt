-- Document 01, "Why a call is turned away": the number of each cause, those of document 02 behind them, and refusals. src/refusals.rt has the causes under the same names.
-- Assumes nothing.
use Rattle.std.specs.Prelude.{ℕ, Result, Ok, Err}
use Rattle.octets.specs.declared.refusals.Cause.{Cause}
use Rattle.octets.specs.declared.refusals.Cause.TheVariants.{BadFrameLength, BadHeader, ZeroDialogToken, ElementPastEnd, ShortElement, BadElementToken, BadSubelement, RepeatedSubelement, TooManyElements, NoElement, GroupDestination, UnknownRequester, ShortBuffer, BadTime, BadRequesterList, BadIdentity, BadReportBody, NoLoggedEvent}
use Rattle.octets.specs.declared.refusals.Refusal.{Refusal as CodeRefusal}

-- "Frame under 3 or over 2,304 octets"
abbrev pub bad_frame_length : ℕ
bad_frame_length = 1

-- "Category not 10; action not 0 or 2 (requests), 1 or 3 (reports)"
abbrev pub bad_header : ℕ
bad_header = 2

-- "Request dialog token 0"
abbrev pub zero_dialog_token : ℕ
zero_dialog_token = 3

-- "Element header or body passes the end"
abbrev pub element_past_end : ℕ
element_past_end = 4

-- "Body under 3 (Diagnostic Request: 4)"
abbrev pub short_element : ℕ
short_element = 5

-- "Token repeated among a frame's requests, or event token 0"
abbrev pub bad_element_token : ℕ
bad_element_token = 6

-- "Subelement passes the end, or a transition subelement has a wrong length"; document 02 (a): "a wrong length in any of the new subelements"
abbrev pub bad_subelement : ℕ
bad_subelement = 7

-- "Transition subelement 0 to 4 repeated"
abbrev pub repeated_subelement : ℕ
repeated_subelement = 8

-- "Ninth request element"
abbrev pub too_many_elements : ℕ
too_many_elements = 9

-- "Diagnostic Request frame without one"
abbrev pub no_element : ℕ
no_element = 10

-- "Group destination (low bit of first octet)"
abbrev pub group_destination : ℕ
group_destination = 11

-- "Console not listed"
abbrev pub unknown_requester : ℕ
unknown_requester = 12

-- "Buffer under 260 octets for a report, 267 for a request"
abbrev pub short_buffer : ℕ
short_buffer = 13

-- "A time field not all ones with: ms over 999, second or minute over 59, hour over 23, day not 1 to 31, month not 1 to 12"
abbrev pub bad_time : ℕ
bad_time = 14

-- "Console list empty, over 4, repeated, or with a group address"
abbrev pub bad_requester_list : ℕ
bad_requester_list = 15

-- "Identity not as above"
abbrev pub bad_identity : ℕ
bad_identity = 16

-- "Report status over 4; event body not 3 with status 1 to 4; event type 0 Successful not 3 or 33"; document 02 (a): "a wrong report body",
-- and an RSN element that "is 22 octets or absent"
abbrev pub bad_report_body : ℕ
bad_report_body = 17

-- document 02 (f): "a position with no event"
abbrev pub no_logged_event : ℕ
no_logged_event = 18

abbrev pub cause_number : Cause → ℕ
cause_number BadFrameLength = bad_frame_length
cause_number BadHeader = bad_header
cause_number ZeroDialogToken = zero_dialog_token
cause_number ElementPastEnd = element_past_end
cause_number ShortElement = short_element
cause_number BadElementToken = bad_element_token
cause_number BadSubelement = bad_subelement
cause_number RepeatedSubelement = repeated_subelement
cause_number TooManyElements = too_many_elements
cause_number NoElement = no_element
cause_number GroupDestination = group_destination
cause_number UnknownRequester = unknown_requester
cause_number ShortBuffer = short_buffer
cause_number BadTime = bad_time
cause_number BadRequesterList = bad_requester_list
cause_number BadIdentity = bad_identity
cause_number BadReportBody = bad_report_body
cause_number NoLoggedEvent = no_logged_event

-- a cause's number, and the place "Returned"
pub record Refusal : Type 0 where
  pub number : ℕ
  pub place : ℕ

abbrev pub refused : ℕ → ℕ → Refusal
refused number place = record { number = number; place = place }

-- number 0: not refused
abbrev pub no_refusal : Refusal
no_refusal = refused 0 0

-- ---- what code gives, by these numbers

abbrev pub refusal_of : CodeRefusal → Refusal
refusal_of r = refused (cause_number r.cause) r.place

-- a refusal, or none
abbrev pub refusal_unless : {T : Type 0} → Result T CodeRefusal → Refusal
refusal_unless (Ok x) = no_refusal
refusal_unless (Err r) = refusal_of r

-- the number of a cause, or 0
abbrev pub number_unless : {T : Type 0} → Result T Cause → ℕ
number_unless (Ok x) = 0
number_unless (Err c) = cause_number c
