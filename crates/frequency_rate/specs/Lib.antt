pub mod FrequencyRate
